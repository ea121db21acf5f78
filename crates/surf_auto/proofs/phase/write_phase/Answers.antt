use Rattle.std.proofs.Common.{◌≡◌, ◌*◌, ◌<◌, ◌∙◌, arith}
use Rattle.surf_auto.specs.Sync.{universe}
use Rattle.surf_auto.proofs.Places.{all_written}
use Rattle.surf_auto.proofs.phase.write_phase.Goals as goal

pub returns : goal.returns
returns g c =
    let G = g.G.Lattice.grid c.args.grid.now in
    let U = universe G (g.L.Local.rule c.args.local.now) c.args.edge c.args.cells.now in
    let side = c.height-height.ensures.side in
    let done = c.loop-row-test.false in
    let rows = c.loop-row.auto.row-end in
    let last : c.loop-row.row ≡ G.height = omega arith in
    let turned : G.height * G.width ≡ G.width * G.height = omega arith in
    all_written U c.args.phase c.loop-row.next (c.loop-row.auto.next ∙ c.requires.room ∙ c.requires.stands.one_per_site)
    (λ k h. c.loop-row.invariant k (let b : k < c.loop-row.row * G.width = rw last (omega arith) in b))

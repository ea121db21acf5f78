use Rattle.std.proofs.Common.{◌≡◌, ℕ, ◌+◌, ◌*◌, ◌<◌, true, length, sym, ◌∙◌, subst, arith}
use Rattle.std.proofs.lemmas.Bool.{ltb-true}
use Rattle.surf_auto.specs.Sync.{universe}
use Rattle.surf_auto.proofs.Places.{next_place, row_place, inner_written, written_more}
use Rattle.surf_auto.proofs.phase.write_row.Goals.{then-row-gt0, else-row-gt0, then-is_between+then-x-gt0+then-x-width, else-is_between}
use Rattle.surf_auto.proofs.phase.write_row.Goals as goal

pub loop-x-init : goal.loop-x-init
loop-x-init g c = λ k h.
    let b : k < c.args.row * c.width-width.result = omega arith in
    c.requires.above k (subst (λ w. k < c.args.row * w) c.width-width.ensures.side b)

pub loop-x-preserved : goal.loop-x-preserved
loop-x-preserved g c =
    let G = g.G.Lattice.grid c.args.grid.now in
    let U = universe G (g.L.Local.rule c.args.local.now) c.args.edge c.args.cells.now in
    let width : ℕ = c.width-width.result in
    let row : ℕ = c.args.row in
    let x : ℕ = c.loop-x.x in
    let side : width ≡ G.width = c.width-width.ensures.side in
    let high : c.height-height.result ≡ G.height = c.height-height.ensures.side in
    let left : x < width = c.loop-x-test.true in
    let narrow : x < G.width = omega arith in
    let room : length c.loop-x.next ≡ G.width * G.height = c.loop-x.auto.next ∙ c.requires.room ∙ c.requires.stands.one_per_site in
    let within : row * width + x < length c.loop-x.next = subst (λ w. row * w + x < length c.loop-x.next) (sym side) (row_place G.width G.height row x (length c.loop-x.next) c.requires.row narrow room) in
    let between : c.if-row-gt0.is_between ≡ true → (0 < row) × (row + 1 < c.height-height.result) = elim c.if-row-gt0.branch [
      | then-row-gt0 v ↦ λ t. (v.if-row-gt0.true, ltb-true _ _ (sym v.is_between-is ∙ t))
      | else-row-gt0 v ↦ λ t. absurd (let some : 0 < row = ltb-true _ _ (sym v.is_between-is ∙ t) in let none = v.if-row-gt0.false in omega arith)
    ] in
    let written : c.if-is_between.next ≡ next_place U c.args.phase (row * width + x) = elim c.if-is_between.branch [
      | then-is_between+then-x-gt0+then-x-width w ↦
          let b = between w.if-is_between.true in
          let bottom : row + 1 < G.height = omega arith in
          w.next-is ∙ w.next_inside.ensures ∙ inner_written U c.args.phase width row x c.requires.stands.same_degree side b.0 bottom w.if-x-gt0.true w.if-x-width.true
      | else-is_between w ↦ w.next-is ∙ w.next_at.ensures
    ] in
    written_more U c.args.phase c.loop-x.next (row * width) x c.if-is_between.next within c.loop-x.invariant written

pub returns : goal.returns
returns g c = λ k h.
    let width : ℕ = c.width-width.result in
    let done = c.loop-x-test.false in
    let below : k < (c.args.row + 1) * width = subst (λ w. k < (c.args.row + 1) * w) (sym c.width-width.ensures.side) h in
    c.loop-x.invariant k (omega arith)

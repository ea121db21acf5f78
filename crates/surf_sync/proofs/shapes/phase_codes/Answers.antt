use Rattle.std.proofs.Common.{◌≡◌, None, ap, ◌∙◌, arith}
use Rattle.std.specs.List.{flat_map}
use Rattle.surf_sync.specs.Codes.{protocol}
use Rattle.surf_sync.specs.Rules.{below}
use Rattle.surf_sync.specs.Shapes.{by_previous}
use Rattle.surf_sync.proofs.Loops.{flat_one_more, phase_codes}
use Rattle.surf_sync.proofs.shapes.phase_codes.Goals as goal

pub loop-current-preserved : goal.loop-current-preserved
loop-current-preserved g c = cc (flat_one_more (by_previous (g.L.Local.rule c.args.local.now) c.args.phase) c.loop-current.current, c.in_ok-push_previous.ensures)

pub returns : goal.returns
returns g c =
    let R = g.L.Local.rule c.args.local.now in
    let t = c.loop-current-test.false in
    let a = c.loop-current.auto.current-end in
    let n = c.states-current-end.ensures in
    let last : c.loop-current.current ≡ R.states c.args.phase = omega arith in
    c.loop-current.invariant ∙ ap (λ k. flat_map (by_previous R c.args.phase) (below k)) last ∙ phase_codes (protocol R 0 None) c.args.phase

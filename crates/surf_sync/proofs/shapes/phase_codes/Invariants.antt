use Rattle.std.proofs.Common.{◌≡◌}
use Rattle.std.specs.List.{flat_map}
use Rattle.surf_sync.specs.Rules.{below}
use Rattle.surf_sync.specs.Shapes.{by_previous}
use Rattle.surf_sync.proofs.shapes.phase_codes.Given as goal

abbrev pub invariant-loop-current : goal.invariant-loop-current
invariant-loop-current g l = l.out.items ≡ flat_map (by_previous (g.L.Local.rule l.local) l.phase) (below l.current)

use Rattle.std.proofs.Common.{◌≡◌, ◌++◌}
use Rattle.std.specs.List.{flat_map}
use Rattle.surf_sync.specs.Rules.{below}
use Rattle.surf_sync.specs.Shapes.{by_reads}
use Rattle.surf_sync.proofs.shapes.push_previous.Given as goal

abbrev pub invariant-loop-previous : goal.invariant-loop-previous
invariant-loop-previous g l = l.out.items ≡ l.initial.out.items ++ flat_map (by_reads (g.L.Local.rule l.local) l.phase l.current) (below l.previous)

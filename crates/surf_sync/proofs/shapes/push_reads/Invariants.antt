use Rattle.std.proofs.Common.{◌≡◌, ◌++◌}
use Rattle.std.specs.List.{flat_map}
use Rattle.surf_sync.specs.Rules.{below}
use Rattle.surf_sync.specs.Shapes.{by_acc}
use Rattle.surf_sync.proofs.shapes.push_reads.Given as goal

abbrev pub invariant-loop-reads : goal.invariant-loop-reads
invariant-loop-reads g l = l.out.items ≡ l.initial.out.items ++ flat_map (by_acc (g.L.Local.rule l.local) l.phase l.current l.previous) (below l.reads)

use Rattle.std.proofs.Common.{◌+◌}
use Rattle.surf_auto.specs.Places.{IsNextBelow}
use Rattle.surf_auto.specs.Sync.{universe}
use Rattle.surf_auto.proofs.phase.write_row.Given as goal

abbrev pub invariant-loop-x : goal.invariant-loop-x
invariant-loop-x g l =
    IsNextBelow (universe (g.G.Lattice.grid l.grid) (g.L.Local.rule l.local) l.edge l.cells) l.phase l.next (l.first + l.x)

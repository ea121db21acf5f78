use Rattle.std.proofs.Common.{◌*◌}
use Rattle.surf_auto.specs.Places.{IsNextBelow}
use Rattle.surf_auto.specs.Sync.{universe}
use Rattle.surf_auto.proofs.phase.write_phase.Given as goal

abbrev pub invariant-loop-row : goal.invariant-loop-row
invariant-loop-row g l =
    IsNextBelow (universe (g.G.Lattice.grid l.grid) (g.L.Local.rule l.local) l.edge l.cells) l.phase l.next (l.row * (g.G.Lattice.grid l.grid).width)

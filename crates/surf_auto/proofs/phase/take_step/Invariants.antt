use Rattle.std.proofs.Common.{◌≡◌, map, length}
use Rattle.surf_lattice.specs.Grids.{sites}
use Rattle.surf_auto.specs.Sync.{universe, phase_sync}
use Rattle.surf_auto.proofs.phase.take_step.Given as goal

abbrev pub invariant-loop-phase : goal.invariant-loop-phase
invariant-loop-phase g l = record {
  cells : l.cells.items ≡ map (phase_sync (universe (g.G.Lattice.grid l.grid) (g.L.Local.rule l.local) l.edge l.initial.cells.items) l.phase) (sites (g.G.Lattice.grid l.grid));
  room : length l.spare.items ≡ length l.cells.items;
}

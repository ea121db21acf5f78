use Rattle.std.proofs.Common.{◌≡◌, map, length}
use Rattle.surf_lattice.specs.Grids.{sites}
use Rattle.surf_auto.specs.Sync.{universe, sync}
use Rattle.surf_auto.proofs.phase.take_steps.Given as goal

abbrev pub invariant-loop-step : goal.invariant-loop-step
invariant-loop-step g l = record {
  cells : l.cells.items ≡ map (sync (universe (g.G.Lattice.grid l.grid) (g.L.Local.rule l.local) l.edge l.initial.cells.items) l._step) (sites (g.G.Lattice.grid l.grid));
  room : length l.spare.items ≡ length l.cells.items;
}

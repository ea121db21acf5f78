use Rattle.std.proofs.Common.{◌≡◌, ◌≤◌, length}
use Rattle.std.specs.List.{filter_map, range_with_len}
use Rattle.surf_lattice.specs.Grids.{neighbour}
use Rattle.surf_lattice.proofs.lattice.Lattice.neighbours.Given as goal

abbrev pub invariant-loop-direction : goal.invariant-loop-direction
invariant-loop-direction g l = record {
  so_far : l.found.items ≡ filter_map (neighbour (g.Self.Lattice.grid l.self) l.site) (range_with_len 0 l.direction);
  room : l.found.capacity ≡ 6;
  few : length l.found.items ≤ l.direction;
}

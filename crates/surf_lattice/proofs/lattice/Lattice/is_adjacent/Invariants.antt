use Rattle.std.proofs.Common.{◌≡◌, ℕ, ◌<◌, Some}
use Rattle.surf_lattice.specs.Grids.{neighbour}
use Rattle.surf_lattice.proofs.lattice.Lattice.is_adjacent.Given as goal

abbrev pub invariant-loop-direction : goal.invariant-loop-direction
invariant-loop-direction g l = (d : ℕ) → d < l.direction → neighbour (g.Self.Lattice.grid l.self) l.first d ≡ Some l.second → ⊥

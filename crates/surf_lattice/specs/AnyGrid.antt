-- The grid that a value of the enum of all grids is.
use Rattle.surf_lattice.specs.declared.grid.Grid.{Grid as AnyGrid}
use Rattle.surf_lattice.specs.declared.grid.Grid.TheVariants.{Square, Hex, TorusSquare, TorusHex}
use Rattle.surf_lattice.specs.Grids.{Grid}

abbrev pub grid_of : AnyGrid → Grid
grid_of (Square g) = g
grid_of (Hex g) = g
grid_of (TorusSquare g) = g
grid_of (TorusHex g) = g

pub mod Grids
pub mod Shifts
pub mod Shapes
pub mod AnyGrid
pub mod Laws

pub mod Halves
pub mod Rules
mod Sums
pub mod Cells

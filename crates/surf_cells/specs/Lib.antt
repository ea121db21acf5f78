pub mod Rows
pub mod CellNames

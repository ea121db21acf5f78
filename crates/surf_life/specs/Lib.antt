pub mod Moore
pub mod Halves
pub mod Laws
pub mod Rows

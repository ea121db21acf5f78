pub mod Valued
pub mod Surfaces
pub mod Sound
mod AdderText
pub mod Adders

pub mod Circuits
pub mod Surfaces
pub mod Numbering
pub mod Compiled

pub mod Ways
pub mod Law
pub mod Plans
pub mod Literal
pub mod Settling
pub mod Texts
pub mod Indices

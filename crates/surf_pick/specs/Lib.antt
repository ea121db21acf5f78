pub mod Finds
pub mod Draws
pub mod Trees
pub mod Wides

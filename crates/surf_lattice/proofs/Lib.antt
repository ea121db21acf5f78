pub mod Moves
pub mod Listing
pub mod Neighbours
pub mod Colours

pub mod Counted
pub mod CellPlaces
pub mod Known
pub mod VoteText
pub mod Sound

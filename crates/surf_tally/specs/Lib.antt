pub mod Showings
pub mod Simulated
pub mod Tallies
pub mod Counting
pub mod Summing

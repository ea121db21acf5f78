pub mod LastWords
pub mod Simulated
pub mod Shown
pub mod Sound

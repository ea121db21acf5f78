pub mod Replayed
pub mod Finals
pub mod Observed
pub mod Sound

pub mod Traced
pub mod Finals
pub mod Observed
pub mod Calls

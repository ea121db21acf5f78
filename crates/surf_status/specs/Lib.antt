pub mod Writes
pub mod Notes
pub mod Calls
pub mod Endings

pub mod WellFormed
pub mod Values

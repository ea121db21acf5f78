pub mod Line
pub mod Item
pub mod WellFormed
pub mod Answers
pub mod Kinds
pub mod Rates
pub mod Said

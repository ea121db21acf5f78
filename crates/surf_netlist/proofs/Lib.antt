pub mod Values
pub mod Counts
pub mod Growing
pub mod Costs
pub mod Ending
pub mod Tables
pub mod Meaning
pub mod Lower

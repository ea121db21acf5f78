pub mod Adders
pub mod Votes
pub mod Summaries

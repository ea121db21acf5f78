pub mod Traces
pub mod Replays
pub mod TraceTexts
pub mod Splits
pub mod Generations
pub mod Observations
pub mod Sights
pub mod Watching

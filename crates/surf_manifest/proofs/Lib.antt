mod Worked
pub mod StepLemmas
pub mod Good
pub mod LimitLemmas
pub mod Growth
pub mod DraftLemmas
pub mod RowLemmas
pub mod ReadingLemmas
pub mod Counts
pub mod Runs
pub mod Manifests
pub mod NameLemmas

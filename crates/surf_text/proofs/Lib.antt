pub mod LinesLemmas
pub mod Cuts

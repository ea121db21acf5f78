pub mod ReadBack
pub mod CircuitLaws
pub mod CircuitsRound
pub mod Watched
pub mod AutomataRound
pub mod OneText

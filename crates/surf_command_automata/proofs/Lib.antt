pub mod CellNames
pub mod Automata
pub mod Sound

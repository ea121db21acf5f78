pub mod Generations
pub mod Automata
pub mod Calls

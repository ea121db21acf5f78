mod Gathering
mod Rules
mod Ranges
pub mod Cells
pub mod Phases
mod Places

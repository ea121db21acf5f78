pub mod Systems
pub mod Choices
pub mod Worlds
pub mod Picks
pub mod Renamings
pub mod Inner

pub mod Netlists
pub mod States
pub mod Kinds
pub mod Reactions
pub mod Rules
pub mod Tiles
pub mod Table

pub mod Touched
pub mod Rights
pub mod Totals
pub mod Weights
pub mod Steps
pub mod Events

pub mod Touched
pub mod Totals
pub mod Simulations

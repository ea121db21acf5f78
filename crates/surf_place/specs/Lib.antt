pub mod Drawing
pub mod Placed
pub mod Filling

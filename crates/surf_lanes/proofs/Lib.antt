pub mod Overlaps
pub mod OnePacking
pub mod Placing

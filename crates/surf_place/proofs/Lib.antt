pub mod Rows
pub mod Nets
pub mod Lanes
pub mod Laid
pub mod Tiles
pub mod Filled
pub mod Taking

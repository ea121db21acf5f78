pub mod TileLaw
pub mod Sealed
pub mod Routing
pub mod Sealing

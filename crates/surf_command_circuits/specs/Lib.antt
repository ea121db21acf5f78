pub mod Bits
pub mod Values
pub mod Compiled
pub mod Sets
pub mod Adders
pub mod Calls

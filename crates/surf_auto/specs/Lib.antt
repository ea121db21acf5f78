pub mod Lines
pub mod Locals
pub mod Counts
pub mod Tables
pub mod Sync
pub mod Places
pub mod Laws

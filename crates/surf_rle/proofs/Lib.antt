pub mod Worked
pub mod Signs
pub mod Digits
pub mod Covered
pub mod Drawn
pub mod Told
pub mod Universes
pub mod HeaderLines

pub mod Cutting
pub mod Growth
pub mod Tokens
pub mod Lists
pub mod Building
pub mod Steps
pub mod Words
pub mod Fits
pub mod Whole
mod Worked

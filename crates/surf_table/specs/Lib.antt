pub mod TableLines
pub mod TableTexts
pub mod Readings
pub mod Parts

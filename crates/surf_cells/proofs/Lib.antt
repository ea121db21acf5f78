pub mod Below
pub mod Renamed
pub mod RowTexts

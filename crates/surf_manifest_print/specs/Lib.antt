pub mod Legends
pub mod LegendTexts
pub mod LegendReadings
pub mod Prints
pub mod Rows

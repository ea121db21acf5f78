pub mod TextLemmas
pub mod Cuts
pub mod Sorts
pub mod Sides
pub mod Lists
pub mod Totals

mod Plans
mod Codes
mod Saw
mod Ranges
mod Events
mod Places
mod Synchrony
mod Pace
mod Runs
mod Boards
pub mod Built
mod Texts
mod Observed
pub mod Printed
pub mod Starts
mod Slots
pub mod Compiled

pub mod Colonies
pub mod InStep
pub mod Numbers
pub mod Parts

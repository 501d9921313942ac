pub mod Columns
pub mod Parts
pub mod Raising

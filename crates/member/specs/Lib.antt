pub mod Maps
pub mod Bounds
pub mod Questions
pub mod Refusals

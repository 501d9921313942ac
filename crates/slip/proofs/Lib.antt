pub mod Sweeps
pub mod Telling
pub mod Meeting
pub mod Breaches

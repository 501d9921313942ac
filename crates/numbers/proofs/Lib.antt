pub mod Below
pub mod Bits
pub mod Finding
pub mod Pigeonhole
pub mod Counts
pub mod Returning
pub mod Puts

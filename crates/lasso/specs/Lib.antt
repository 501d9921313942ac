pub mod Positions
pub mod Tests
pub mod Words
pub mod Found
pub mod Refusals
pub mod Refused
pub mod Agreement

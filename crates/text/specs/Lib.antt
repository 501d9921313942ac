pub mod Pieces
pub mod Documents
pub mod Refused
pub mod Loads
pub mod Words
pub mod Tokens
pub mod Reading
pub mod Rows

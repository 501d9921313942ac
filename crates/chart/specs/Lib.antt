pub mod Automata
pub mod Kinds
pub mod Refused
pub mod Meanings
pub mod Fits

pub mod Along
pub mod ChartCycles
pub mod WordCycles
pub mod Deciding

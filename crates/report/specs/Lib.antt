pub mod Readings
pub mod ReadCharts
pub mod Shown
pub mod Listed
pub mod Decided
pub mod Spelled
pub mod Counterexamples

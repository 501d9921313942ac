pub mod Graphs
pub mod Walks
pub mod Witnesses
pub mod Implicit
pub mod Ascending

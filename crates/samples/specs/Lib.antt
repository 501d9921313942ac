pub mod Ends
pub mod BitGraphs
pub mod Nodes

pub mod Nodes
pub mod Rules
pub mod Layout
pub mod Ranked
pub mod Containment
pub mod Subsets
pub mod Complement
pub mod Numbering

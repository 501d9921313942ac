pub mod Queues
pub mod Paths
pub mod Lassos

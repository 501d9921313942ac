pub mod Queueing
pub mod Tracing
pub mod Joining

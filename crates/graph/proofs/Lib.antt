pub mod Counting
pub mod Loops
pub mod Paths
pub mod Unrolled
pub mod Falling
pub mod Rounds
pub mod Ascending

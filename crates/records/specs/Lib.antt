pub mod Refusals
pub mod Sizes
pub mod Tables
pub mod WorkTables

pub mod Links
pub mod Progress
pub mod Surveys
pub mod Trees
pub mod Changes
pub mod Searches
pub mod Weights

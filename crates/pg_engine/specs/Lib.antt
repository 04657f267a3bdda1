pub mod Executed
pub mod Filters
pub mod Kept
pub mod Opened
pub mod Outcomes

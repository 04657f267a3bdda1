pub mod Dispatch
pub mod Matching

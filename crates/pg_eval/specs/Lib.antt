pub mod Tables
pub mod Values
pub mod Truth
pub mod Matching
pub mod Seen

pub mod Counting
pub mod Entries
pub mod Kept
pub mod Places
pub mod Tracking
pub mod Walking
pub mod Ways
pub mod Changes

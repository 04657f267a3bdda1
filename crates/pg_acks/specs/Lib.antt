pub mod Acked
pub mod Kept
pub mod Keys
pub mod Runs

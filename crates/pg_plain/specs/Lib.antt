pub mod Filtering
pub mod Kept
pub mod Unpaged

pub mod Pattern
pub mod Reaching

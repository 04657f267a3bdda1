pub mod Lists
pub mod Filters
pub mod Acknowledging
pub mod Ordering
pub mod Giving
pub mod Counting

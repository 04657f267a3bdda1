pub mod Commands
pub mod Lists
pub mod Messages
pub mod Names
pub mod Reading

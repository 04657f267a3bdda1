pub mod Arguments
pub mod Reading
pub mod Replies
pub mod Spelling
pub mod Texts

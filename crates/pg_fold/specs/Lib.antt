pub mod Fold
pub mod HolderIds
pub mod JournalNumbers
pub mod QueueIndex
pub mod Rows
pub mod Sound

pub mod Entries
pub mod Numbers
pub mod Queues
pub mod Rows

pub mod Adding
pub mod Appending
mod Examples
pub mod IsScanned
pub mod KeepsAsRead
pub mod Laying
pub mod Payloads
pub mod Reading
pub mod Sealing
pub mod ShortBatch
pub mod Stages
pub mod StaysOrMends
pub mod Taking
pub mod Unique
pub mod Walking

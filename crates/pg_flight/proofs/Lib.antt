pub mod DeliveryLaws
pub mod Keyed
pub mod NamedRows
pub mod Numbering
pub mod OpenRows
pub mod Seen

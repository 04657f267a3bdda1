pub mod Actions
pub mod Broker
pub mod Causes
pub mod Changes
pub mod Refusals
pub mod Routing
pub mod Steps

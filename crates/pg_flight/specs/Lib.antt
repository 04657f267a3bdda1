pub mod Consumers
pub mod Deliveries
pub mod Flights
pub mod Ids
pub mod Names

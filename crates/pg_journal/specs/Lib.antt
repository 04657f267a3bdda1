pub mod Generations
pub mod Looks
pub mod Stands

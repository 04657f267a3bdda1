pub mod Changing
pub mod Joining
pub mod Keys
pub mod Ordering
pub mod SameSets
pub mod Seeing
pub mod Sets
pub mod Writing

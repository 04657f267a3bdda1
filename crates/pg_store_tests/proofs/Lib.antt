pub mod Empty
pub mod Two

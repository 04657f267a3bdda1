pub mod Faults
pub mod Frames
pub mod Pages
pub mod Places
pub mod Reading
pub mod Rules
pub mod Writing

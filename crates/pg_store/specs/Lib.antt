pub mod Pages
pub mod Stores
pub mod Framed
pub mod Turning
pub mod Every

pub mod Names
pub mod OpenFiles

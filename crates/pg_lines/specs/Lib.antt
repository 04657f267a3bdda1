pub mod Lines
pub mod ReadSteps
pub mod Reading

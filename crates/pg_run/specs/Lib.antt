pub mod Answered
pub mod ProgramWords
pub mod Ran
pub mod Served
pub mod Sights
pub mod Statuses

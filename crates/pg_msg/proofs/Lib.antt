pub mod CountedLoop
mod Examples
pub mod FieldLaws
pub mod MessageLaws
pub mod TestLaws
pub mod ValueLaws

pub mod Appending
pub mod BatchBytes
pub mod BatchLaws
pub mod EntryLaws
pub mod FieldLaws

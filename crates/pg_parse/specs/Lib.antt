pub mod Filters
pub mod FilterTexts
pub mod Grammar
pub mod Parsing

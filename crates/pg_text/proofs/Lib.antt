pub mod CommandLaws
mod Examples
pub mod LoopLaws
pub mod NumeralLemmas
pub mod PartLaws
pub mod PieceLaws
pub mod ReadingLemmas
pub mod RenderLaws
pub mod ValueLaws
pub mod WordLaws

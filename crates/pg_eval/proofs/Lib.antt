pub mod MatchLaws
pub mod TruthLaws

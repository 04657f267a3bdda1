pub mod CauseLaws
pub mod RoutingLaws

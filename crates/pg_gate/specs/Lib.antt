pub mod Gated
pub mod Payloads
pub mod Spans

pub mod Spans
pub mod InOrder

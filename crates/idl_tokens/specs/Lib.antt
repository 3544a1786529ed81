pub mod Characters
pub mod Numbers
pub mod Tokens
pub mod Spans

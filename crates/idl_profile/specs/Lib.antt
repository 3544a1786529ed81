pub mod Types
pub mod Meaning
pub mod Measures
pub mod Judged
pub mod Text
pub mod DefText

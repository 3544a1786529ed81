pub mod Remaining
pub mod Transcoded
pub mod SpelledInBinary
mod WorkedRows

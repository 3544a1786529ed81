pub mod Steps
pub mod Climbing
pub mod Answering
mod WorkedRows

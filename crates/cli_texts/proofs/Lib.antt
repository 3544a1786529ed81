pub mod Alike
pub mod Lines
pub mod Users
pub mod Formed
pub mod Meant
mod WorkedRows

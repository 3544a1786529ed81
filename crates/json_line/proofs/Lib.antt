pub mod Forms
pub mod EachLine
pub mod Found
pub mod Plain
pub mod Rest
pub mod WorkedRows

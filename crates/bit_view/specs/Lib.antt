pub mod Lying
pub mod InPlace
pub mod Branches
pub mod Views
pub mod Rows
pub mod Cursor
pub mod FieldCursor

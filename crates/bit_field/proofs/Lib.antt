pub mod Words
pub mod Writes
pub mod ReadFields
pub mod Signs

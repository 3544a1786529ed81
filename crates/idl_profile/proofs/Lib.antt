pub mod DefLaws
pub mod Rows
pub mod Sets
pub mod Had
pub mod Each
pub mod Ids
pub mod Rising
pub mod Growing

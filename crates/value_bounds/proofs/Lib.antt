pub mod Seen
pub mod Arms
pub mod Forms
pub mod Left
pub mod Least
pub mod Holes
pub mod Steps
pub mod Based

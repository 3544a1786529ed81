pub mod Found
pub mod Indexed
pub mod Nodes
pub mod View

pub mod Keys
pub mod Entries
pub mod Repeats
pub mod Neighbours
pub mod InOrder
pub mod Laws

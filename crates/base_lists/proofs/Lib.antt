pub mod Cuts
pub mod Insertion

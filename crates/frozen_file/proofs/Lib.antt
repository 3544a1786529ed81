pub mod Frozen
pub mod Fronts

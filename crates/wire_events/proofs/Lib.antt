pub mod Deeper
pub mod Taken
pub mod Openings
pub mod Splits
pub mod Stacks

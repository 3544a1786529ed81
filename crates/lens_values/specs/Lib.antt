pub mod Flat
pub mod Putting
pub mod Thaws
pub mod Writing

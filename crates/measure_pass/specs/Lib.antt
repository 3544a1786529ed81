pub mod Growing
pub mod Spots
pub mod Measuring

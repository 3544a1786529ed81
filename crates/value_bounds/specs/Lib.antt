pub mod Seeing
pub mod Basing

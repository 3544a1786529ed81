pub mod Listing
pub mod Demos

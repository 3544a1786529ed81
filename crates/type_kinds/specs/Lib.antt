pub mod KindsOf
pub mod Defaults
pub mod Accepted
pub mod Laws

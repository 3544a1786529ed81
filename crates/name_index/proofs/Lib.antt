pub mod Entering
pub mod Places

pub mod Held
pub mod Written
pub mod Parts
pub mod Opening
pub mod Laws

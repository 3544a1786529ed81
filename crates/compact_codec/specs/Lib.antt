pub mod Wire
pub mod Decoding
pub mod Laws
pub mod Building

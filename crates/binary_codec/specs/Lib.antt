pub mod BinaryDecoding
pub mod BinaryEncoding
pub mod BinaryLaws

pub mod BinaryCodes
pub mod BinaryNumbers
pub mod BinaryGrammar
pub mod BinaryReads
pub mod BinaryAnswers
pub mod Appends

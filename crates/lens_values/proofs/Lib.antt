pub mod Counting
pub mod FlatTypes
pub mod LensParts
pub mod KeyRanks
pub mod PutStructs
pub mod Written

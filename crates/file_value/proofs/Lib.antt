pub mod Rows
pub mod Records
pub mod KeyRanks
pub mod PutRows
pub mod PutStructs
pub mod OfHeld

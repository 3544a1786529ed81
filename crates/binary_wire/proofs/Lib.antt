pub mod ReadParts
pub mod ReadSize
pub mod ReadScalars
pub mod ReadRows
pub mod ReadMaps
pub mod ReadStructs
pub mod ReadWhole
pub mod AsCompact
pub mod PushSteps
pub mod Answering
mod WorkedRows

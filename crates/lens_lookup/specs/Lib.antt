pub mod TypedParts
pub mod Sought
pub mod SoughtOrder
pub mod KeySorts
pub mod LensKeys
pub mod FoundSteps
pub mod FittedPaths
pub mod Intervals

mod WorkedRows
mod Bound
pub mod Projected
pub mod Itself
mod OwnKinds
mod Stepped
mod Many
pub mod Tags
pub mod Shaped
pub mod Members
pub mod Rows
pub mod Known
pub mod Lacking
pub mod Arms
pub mod Fielded
pub mod Walking
mod Fitting
mod Adding
mod FieldSteps
mod BindParts
mod LackedParts

pub mod Order
pub mod LeastLaws
pub mod Steps
pub mod Leaves
pub mod Rows
pub mod Maps
pub mod Tables
pub mod Structs
pub mod Parts
pub mod Keyed
pub mod Kept
pub mod FieldLaws
pub mod TextLaws
pub mod TypeLaws
pub mod Fails
mod WorkedRows
pub mod Spelled
mod Sums
mod Totals
pub mod CountSteps
pub mod Answering
pub mod Checks
mod FaultyLaws
mod OwnValues
pub mod Valued

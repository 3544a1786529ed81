pub mod LayoutsHeld
pub mod FileParts
pub mod Openings
pub mod Composed
pub mod Exact

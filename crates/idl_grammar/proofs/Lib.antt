pub mod Exact
pub mod Loops
pub mod CodeLoops
pub mod Lawful

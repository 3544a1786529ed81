pub mod Opened
pub mod Agreeing
pub mod Sure
pub mod Facts
pub mod Steps
pub mod Nodes

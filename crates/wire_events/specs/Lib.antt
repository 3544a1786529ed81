pub mod Events
pub mod Frames
pub mod Texts
pub mod Steps
pub mod Cursor

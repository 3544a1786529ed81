pub mod Answers
pub mod Fitting
pub mod Reading
pub mod Steps
pub mod Texts
pub mod Views

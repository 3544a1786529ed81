pub mod Refusal
pub mod Stages
pub mod Changes
pub mod Opened
pub mod Reply
pub mod Laws
pub mod Run
pub mod Words

pub mod Drafts
pub mod Faults
pub mod Meant
pub mod Parsed
pub mod Roots
pub mod Refs

pub mod InMemory
pub mod Clauses
pub mod Dotted
pub mod Joins
pub mod Rows
pub mod Leading
pub mod Contents
pub mod Thawing

pub mod Items
pub mod Combinators
pub mod CauseLaws

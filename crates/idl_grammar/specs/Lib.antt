pub mod Grammar
pub mod Run

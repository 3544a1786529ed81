pub mod Answering
pub mod Rooting
pub mod Standing
pub mod HalvingLaws
pub mod Meant

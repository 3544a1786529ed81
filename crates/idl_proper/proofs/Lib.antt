pub mod Lists
pub mod Proper
pub mod Rising
pub mod TokensFit
pub mod Meant
pub mod MeantFields
pub mod MeantText
pub mod Meaning

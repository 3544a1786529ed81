pub mod Proper
pub mod ShortTokens
pub mod ShortTexts
pub mod References
pub mod Numbered

pub mod Collecting
pub mod DefinitionSteps
pub mod GrowLaws
pub mod MemberSteps
pub mod SizeLaws
pub mod Sorting
pub mod StructSteps

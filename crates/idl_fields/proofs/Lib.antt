pub mod Enums
pub mod FieldSteps
pub mod Finding
pub mod FoundSteps
pub mod MemberPlaces
pub mod NodeLaws
pub mod OuterLaws

pub mod Finding
pub mod KeyForms
pub mod StepForms
pub mod Reached
pub mod Intervals
pub mod FittedSteps

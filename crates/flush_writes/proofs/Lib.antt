pub mod RunSteps
pub mod UpdateSteps
pub mod WritingSteps

pub mod Noting
pub mod WriteSteps

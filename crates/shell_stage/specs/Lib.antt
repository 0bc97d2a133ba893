pub mod Asking
pub mod Calls
pub mod Stages
pub mod Step

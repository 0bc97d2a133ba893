pub mod Handles
pub mod SessionState
pub mod Scoping
pub mod Changes
pub mod Making
pub mod Loads
pub mod Keeping

pub mod Health
pub mod Calls

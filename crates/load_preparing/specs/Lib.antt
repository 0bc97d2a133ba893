pub mod Preparing
pub mod Refusals

pub mod Parts
pub mod Steps
pub mod Calling
pub mod Refusals

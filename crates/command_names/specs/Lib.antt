pub mod Attributes
pub mod Standing
pub mod Terms

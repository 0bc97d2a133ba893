pub mod Resolving
pub mod Standing

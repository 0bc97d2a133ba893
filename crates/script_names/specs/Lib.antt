pub mod Parts
pub mod Faults
pub mod Scopes
pub mod Naming

pub mod Hierarchy
pub mod Columns
pub mod Faults
pub mod Declaring

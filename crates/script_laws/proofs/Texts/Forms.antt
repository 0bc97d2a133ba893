pub mod Bulks
pub mod Parts
pub mod Rows
pub mod Selects
pub mod Statements

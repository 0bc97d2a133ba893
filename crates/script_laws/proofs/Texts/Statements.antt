pub mod Bulks
pub mod Declared
pub mod Parts
pub mod Rows
pub mod Selects
pub mod Statements

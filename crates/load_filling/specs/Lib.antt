pub mod Loaded
pub mod Filled
pub mod Rows
pub mod Growing

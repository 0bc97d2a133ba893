pub mod Led
pub mod Plainness
pub mod Rows

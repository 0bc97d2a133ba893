pub mod Answered
pub mod Cells
pub mod Choices
pub mod Classes
pub mod Columns
pub mod Loads
pub mod Pairs
pub mod Parts

pub mod Answers
pub mod Ascending
pub mod Counts
pub mod Order
pub mod OrderLaws

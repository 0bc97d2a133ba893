pub mod Equal
pub mod Answers

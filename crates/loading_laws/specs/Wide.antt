pub mod Parts
pub mod Partners
pub mod Answers

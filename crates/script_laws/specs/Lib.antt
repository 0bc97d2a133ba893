pub mod Answers
pub mod Lines
pub mod Readings
pub mod Scripts
pub mod Texts

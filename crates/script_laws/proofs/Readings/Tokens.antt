pub mod Runs
pub mod Quotes
pub mod Words
pub mod Reached
pub mod Right
pub mod Lines

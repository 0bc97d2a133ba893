pub mod Answering
pub mod Built
pub mod Leaving
pub mod Opened
pub mod Reading
pub mod Reads
pub mod Written

pub mod Causes
pub mod Outcome
pub mod Reference
pub mod Seen
pub mod Words

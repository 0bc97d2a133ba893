pub mod Answers
pub mod Naming
pub mod Notes
pub mod Replies

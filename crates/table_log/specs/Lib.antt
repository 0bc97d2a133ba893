pub mod Marks
pub mod Scopes
pub mod Undone

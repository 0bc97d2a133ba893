pub mod Linked
pub mod Calls
pub mod Statements
pub mod OwnRows
pub mod Options
pub mod Expired
pub mod Lazily
pub mod Refused

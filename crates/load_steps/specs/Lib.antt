pub mod Based
pub mod Laws
pub mod Loaded
pub mod Loads
pub mod Noted
pub mod Rows
pub mod Steps

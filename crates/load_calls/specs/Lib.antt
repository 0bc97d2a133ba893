pub mod Collections
pub mod Reading
pub mod Refreshing
pub mod Refusals

pub mod Noting
pub mod Joining
pub mod Acting
pub mod Refusing
pub mod Searching

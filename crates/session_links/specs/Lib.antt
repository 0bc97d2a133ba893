pub mod Relinked
pub mod Linking
pub mod Reading
pub mod Steps

pub mod Keeping
pub mod Scanned
pub mod Stored

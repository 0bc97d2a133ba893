pub mod Loads
pub mod Readings

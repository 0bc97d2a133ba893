pub mod Performing
pub mod Refused

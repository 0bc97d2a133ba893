pub mod Attributes
pub mod Found

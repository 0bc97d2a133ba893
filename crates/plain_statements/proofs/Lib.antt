pub mod Bulks
pub mod Conditions
pub mod Selects

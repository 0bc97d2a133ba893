pub mod Placing
pub mod Conditions

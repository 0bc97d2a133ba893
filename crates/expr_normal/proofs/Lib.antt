pub mod Fixed
pub mod Negates
pub mod Reversed
pub mod Steps

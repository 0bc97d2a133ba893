pub mod Orders
pub mod Changing
pub mod Scans

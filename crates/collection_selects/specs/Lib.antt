pub mod Collections
pub mod Pairs
pub mod Rows

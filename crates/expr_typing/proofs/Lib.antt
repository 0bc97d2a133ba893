pub mod Aggregates
pub mod Items
pub mod Refused

pub mod Joined
pub mod Queries
pub mod Selectin

pub mod Select
pub mod Query
pub mod Bulk

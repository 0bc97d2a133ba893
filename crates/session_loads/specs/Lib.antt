pub mod Asking
pub mod Expiring
pub mod Rows
pub mod Queries
pub mod Reads
pub mod Refusals

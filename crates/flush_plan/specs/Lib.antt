pub mod Planning
pub mod Flushing
pub mod Stating

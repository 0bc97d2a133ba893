pub mod Scopes
pub mod Restoring

pub mod Scopes
pub mod Expressions
pub mod Sources
pub mod Judging
pub mod Queries

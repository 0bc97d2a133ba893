pub mod Equality
pub mod Groups
pub mod Levels
pub mod Neither
pub mod Trees

pub mod Branches
pub mod Sources
pub mod Selects

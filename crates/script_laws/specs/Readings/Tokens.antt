pub mod Spelling
pub mod Cutting

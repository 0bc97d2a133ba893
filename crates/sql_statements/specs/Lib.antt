pub mod Bulks
pub mod Selects
pub mod Texts

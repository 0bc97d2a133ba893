pub mod Declared
pub mod Range
pub mod Unswitched

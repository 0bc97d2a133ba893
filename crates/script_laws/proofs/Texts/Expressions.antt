pub mod Expressions
pub mod Forms
pub mod Full
pub mod Levels
pub mod Lists
pub mod Pieces

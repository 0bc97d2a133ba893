pub mod Expressions
pub mod Pieces
pub mod Rows
pub mod Statements

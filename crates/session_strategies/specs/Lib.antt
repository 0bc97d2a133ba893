pub mod Unwritten
pub mod Asked
pub mod Statements
pub mod Strategies

pub mod Columns
pub mod Names
pub mod Pages
pub mod Rules
pub mod Words
pub mod Written

pub mod Along
pub mod Causes
pub mod Noted
pub mod OneStatement
mod RereadLemmas
pub mod Statements
mod Turns

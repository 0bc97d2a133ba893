pub mod Tokens
pub mod Forms
pub mod Nesting
pub mod Language

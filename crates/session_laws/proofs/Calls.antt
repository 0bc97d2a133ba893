pub mod Adding
pub mod Leaving
pub mod Nesting
pub mod Making
pub mod Writing
pub mod Rereading
pub mod Whole

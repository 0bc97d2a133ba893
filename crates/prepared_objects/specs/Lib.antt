pub mod Leaving
pub mod Known

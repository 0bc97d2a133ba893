pub mod Known
pub mod Stale

pub mod Fitting
pub mod Flushed
pub mod Keys
pub mod Ready
pub mod Flushes

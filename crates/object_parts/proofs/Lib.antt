pub mod Batches
pub mod Expiries
pub mod FirstSteps
pub mod Judged

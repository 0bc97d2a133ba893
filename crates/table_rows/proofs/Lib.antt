pub mod Bare
mod Bounds
pub mod Entries
mod IndexSteps
pub mod Laws
mod Places
mod Seen
mod Standing

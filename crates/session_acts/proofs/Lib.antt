pub mod ActLemmas
pub mod Clearing
mod FlushingSteps
mod Guarding
mod Outcomes
mod Planned
mod ReadingSteps
mod ReadySteps
pub mod Savepoints
mod Steps
pub mod Unwritten

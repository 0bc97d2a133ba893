pub mod Conflicts
pub mod Judging
pub mod Leaving
pub mod Steps
pub mod Taking
pub mod ValueSteps

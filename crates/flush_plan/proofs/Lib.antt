pub mod GoneSteps
pub mod LateSteps
pub mod PhaseSteps

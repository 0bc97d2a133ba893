pub mod FitSteps
pub mod FollowSteps
mod HolderSteps
mod KeySteps
pub mod ObjectSteps
pub mod SettledSteps
pub mod Flushes

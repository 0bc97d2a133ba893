mod CellSteps
pub mod Gone
mod HolderSteps
mod LostSteps

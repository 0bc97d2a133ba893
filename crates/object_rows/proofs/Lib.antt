pub mod ObjectSteps
pub mod PlaceSteps
pub mod Steps
mod LinkSets

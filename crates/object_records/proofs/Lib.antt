pub mod Differing
pub mod Exact
mod FreeSteps
mod KeptSteps
mod OneObject
mod PutSteps
pub mod Scopes
mod StateSteps
mod TouchSteps

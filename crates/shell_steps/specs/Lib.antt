pub mod Calls
pub mod ShellState
pub mod Step

pub mod Rules
pub mod Shown

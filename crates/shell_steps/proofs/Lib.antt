pub mod Commands
pub mod Lines
pub mod Replying
pub mod Turns

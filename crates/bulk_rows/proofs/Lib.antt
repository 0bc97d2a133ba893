mod Behind
pub mod Declared
mod Pairs
mod Updates
pub mod Refused

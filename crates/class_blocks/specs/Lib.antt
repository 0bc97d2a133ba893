pub mod Names
pub mod Lines
pub mod Blocks
pub mod Tables
pub mod Sides
pub mod Validators
pub mod Plain

pub mod Kept
pub mod Records
pub mod Same
pub mod Touched
pub mod Way

mod WayBack
pub mod Marking

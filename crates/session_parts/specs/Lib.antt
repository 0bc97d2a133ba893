pub mod Depths
pub mod Ends

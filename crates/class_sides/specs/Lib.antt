pub mod Keys
pub mod Sides
pub mod Pairs
pub mod Linking

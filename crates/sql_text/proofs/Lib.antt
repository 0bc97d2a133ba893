pub mod Doubling
pub mod Pages
pub mod Steps
pub mod Uses

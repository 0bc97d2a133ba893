pub mod Cells
pub mod Holders
pub mod Lost

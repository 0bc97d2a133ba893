pub mod Standing
pub mod PairsOnce
pub mod Deleted

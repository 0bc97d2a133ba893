pub mod Cells
pub mod Refers
pub mod Sorted
pub mod Orders
pub mod Told
pub mod Ready
pub mod Index

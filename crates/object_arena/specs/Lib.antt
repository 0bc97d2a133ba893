pub mod Entries
pub mod Every
pub mod Fit
pub mod Graph
pub mod Identity
pub mod Index

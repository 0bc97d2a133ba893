pub mod Columns
pub mod PartKinds
pub mod Links
pub mod Fitting

pub mod CellLemmas
pub mod GoneLemmas
pub mod IndexSteps
pub mod Listing
pub mod ReadyLemmas
pub mod Sorting

pub mod ActsLemmas
pub mod AloneLemmas
pub mod Counts
pub mod Lifting
pub mod Recovering
pub mod Sequence
pub mod Telling

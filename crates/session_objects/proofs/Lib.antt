pub mod Acting
pub mod JoiningLemmas
mod Judged
pub mod LeavingLemmas
pub mod ListLemmas
pub mod OutsiderLemmas
pub mod Refusing
pub mod TakingLemmas

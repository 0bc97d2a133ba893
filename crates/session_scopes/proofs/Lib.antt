mod Falling
mod GivenLemmas
pub mod SessionLemmas
mod MakingLemmas
pub mod GrownLemmas
pub mod LoadLemmas

pub mod LoadedLemmas
pub mod FilledLemmas
pub mod FoundLemmas

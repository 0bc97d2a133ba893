pub mod ObjectLemmas
pub mod ScopeLemmas

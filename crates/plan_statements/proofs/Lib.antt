pub mod Alike
pub mod KeyLemmas
pub mod OfRows
pub mod StaleLemmas

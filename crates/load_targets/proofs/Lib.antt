pub mod KeyLemmas
pub mod EndLemmas
pub mod TargetLemmas

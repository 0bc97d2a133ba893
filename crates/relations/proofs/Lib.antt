pub mod EndLemmas
pub mod SideLemmas
pub mod ChangeLemmas
pub mod CallLemmas

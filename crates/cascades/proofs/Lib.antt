pub mod EndLemmas
pub mod WalkLemmas
pub mod ClosureLemmas
pub mod OneLemmas
pub mod LeastLemmas

pub mod LinkLemmas
pub mod TakenLemmas

pub mod EndLemmas
pub mod TakenLemmas
pub mod LinesLemmas
pub mod WritingLemmas
pub mod KeepsLemmas
pub mod WordsLemmas

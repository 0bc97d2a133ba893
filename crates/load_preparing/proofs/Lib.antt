mod CellLemmas
pub mod ReadingLemmas

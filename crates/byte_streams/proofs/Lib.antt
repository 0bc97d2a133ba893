pub mod Pieces
pub mod Reading
pub mod ReadingLemmas
pub mod Scripts

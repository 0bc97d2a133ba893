mod Finding
mod ReadingLemmas

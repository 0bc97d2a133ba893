pub mod BackLemmas
pub mod KeyLemmas
pub mod PutLemmas
pub mod ScopeLemmas
pub mod TraceLemmas

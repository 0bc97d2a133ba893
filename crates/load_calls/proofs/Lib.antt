pub mod CollectionLemmas
pub mod ReadLemmas
pub mod RefreshLemmas
pub mod RefusalLemmas
pub mod RowsLemmas

pub mod AskLemmas
pub mod CallLemmas
pub mod RefusedLemmas
pub mod LoadLemmas
pub mod RowLemmas
pub mod ExpireLemmas
pub mod FindLemmas

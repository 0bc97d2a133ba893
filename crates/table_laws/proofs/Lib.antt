pub mod Accepted
pub mod Ascending
mod Cells
pub mod Dropped
pub mod EachCall
pub mod EachJoin
pub mod Entries
mod Evaluated
pub mod HeldRows
mod Keeping
pub mod Legality
pub mod Members
pub mod OneByOne
pub mod OrderLemmas
pub mod RowFits
pub mod SameValues
pub mod Savepoints
pub mod Scanned
pub mod Telling

mod Apart
mod Caseless
mod Equations
pub mod Forms
mod Insertion
mod Inside
pub mod KeptApart
pub mod KeptFolds
pub mod KeptKinds
pub mod KeptLists
pub mod KeptPlain
mod KeptTables
mod LacksApart
mod Lists
pub mod Meaning
mod Negations
pub mod OneGroup
mod OneList
pub mod Ranks
pub mod SameAnswers
mod SameLists
mod SameSources
mod SameTrees
mod SettledApart
mod Several
mod Truths
pub mod Typed

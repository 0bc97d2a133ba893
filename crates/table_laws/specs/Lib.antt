pub mod Filters
pub mod Legality
pub mod OneByOne
pub mod Savepoints
pub mod Worked

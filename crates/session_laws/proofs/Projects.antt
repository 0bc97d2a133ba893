pub mod Apart
pub mod Columns
pub mod KnownCells
pub mod LateKeys
pub mod Loose
pub mod Passing
pub mod Rows

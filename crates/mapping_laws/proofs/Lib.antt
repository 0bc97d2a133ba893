pub mod Tables
pub mod Ties
pub mod Told
pub mod Attributes
pub mod KeyKinds
pub mod KeyColumns

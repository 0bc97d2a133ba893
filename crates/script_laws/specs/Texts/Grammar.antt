pub mod OneTree
pub mod Reads
pub mod Trees
pub mod Words

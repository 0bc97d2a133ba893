pub mod Hierarchies

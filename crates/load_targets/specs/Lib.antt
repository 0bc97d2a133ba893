pub mod ForeignKeys
pub mod Targets

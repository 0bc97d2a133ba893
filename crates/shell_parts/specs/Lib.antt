pub mod Bindings
pub mod Blocks

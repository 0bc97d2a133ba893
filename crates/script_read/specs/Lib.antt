pub mod Terms
pub mod Bindings
pub mod Top
pub mod Line

pub mod Asking
pub mod Bindings
pub mod Stages
pub mod Told

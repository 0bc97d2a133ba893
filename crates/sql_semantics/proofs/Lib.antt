pub mod Equations
pub mod Truths
pub mod Typed

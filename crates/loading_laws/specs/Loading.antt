pub mod Loadable
pub mod First
pub mod Whole
pub mod Strategies

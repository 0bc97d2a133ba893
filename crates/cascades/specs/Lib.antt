pub mod Closures
pub mod Reaching
pub mod Walks

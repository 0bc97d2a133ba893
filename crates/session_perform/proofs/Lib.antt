mod LinkCalls
mod Performed
pub mod Sendable
pub mod Refusing

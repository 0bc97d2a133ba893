pub mod CompiledLines
pub mod Echo
pub mod Later
pub mod StatementLines

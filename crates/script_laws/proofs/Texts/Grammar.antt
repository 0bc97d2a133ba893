pub mod Chains
pub mod Finding
pub mod Found
pub mod Naming
pub mod OneTree
pub mod Operands
pub mod Reader
pub mod Tests

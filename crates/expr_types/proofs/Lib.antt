pub mod Folds
pub mod Operands

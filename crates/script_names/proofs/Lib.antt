pub mod Firsts
pub mod Places
pub mod Folds
pub mod Operands
pub mod Equations

pub mod Linked
pub mod Operands
pub mod Refused

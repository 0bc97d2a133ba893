pub mod Compiling
pub mod Cuts
pub mod Declared
mod Marks
pub mod Numbers

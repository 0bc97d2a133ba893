pub mod Firsts
pub mod Loops

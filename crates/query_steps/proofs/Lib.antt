mod Ends
pub mod Firsts
mod Nulls
mod Truths
pub mod Values

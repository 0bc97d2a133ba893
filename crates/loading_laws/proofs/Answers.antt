pub mod Totals
pub mod Values
pub mod Conditions
pub mod Answered
pub mod Filters

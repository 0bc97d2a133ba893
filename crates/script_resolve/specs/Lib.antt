pub mod Bulks
pub mod JudgedBulks
pub mod Judging
pub mod Refusals
pub mod Sayable
pub mod Selects

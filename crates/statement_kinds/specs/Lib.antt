pub mod Mismatches
pub mod NormalBulk

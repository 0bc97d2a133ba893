pub mod Shifted
pub mod MainSelect

pub mod Beginning
pub mod Ending
pub mod Restoring
pub mod Touching

pub mod Standing
pub mod Filled
pub mod Ends
pub mod Paired

pub mod One
pub mod Legal

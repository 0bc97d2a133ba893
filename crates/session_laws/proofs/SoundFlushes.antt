pub mod Answered
pub mod One
pub mod Refused
pub mod Told

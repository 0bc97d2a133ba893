pub mod Answered
pub mod Carried
pub mod Counted
pub mod Ended
pub mod Stated
pub mod Texts

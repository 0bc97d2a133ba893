pub mod Taken
pub mod Answered
pub mod Given
pub mod Links
pub mod Objects
pub mod Owners
pub mod Fills
pub mod Agree

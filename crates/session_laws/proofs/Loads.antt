pub mod Touched
pub mod Objects
pub mod Sessions
pub mod Laws

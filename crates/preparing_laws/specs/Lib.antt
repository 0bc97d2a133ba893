pub mod Done
pub mod Laws
pub mod Reread

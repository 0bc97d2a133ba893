pub mod Input
pub mod Names
pub mod Literals
pub mod Lists
pub mod Many

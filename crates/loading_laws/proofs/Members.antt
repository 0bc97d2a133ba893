pub mod Choices
pub mod RootKeys
pub mod Ranks
pub mod Owned
pub mod Paired

pub mod Exact
pub mod Greatest
pub mod Lists
pub mod Pushing
pub mod Tests

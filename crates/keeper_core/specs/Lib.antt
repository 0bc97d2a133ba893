pub mod Alone
pub mod Beside
pub mod Calls
pub mod Keeping
pub mod Moment
pub mod Programs
pub mod Store

pub mod Links
pub mod Loading
pub mod Reading

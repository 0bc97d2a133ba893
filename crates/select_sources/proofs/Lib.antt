pub mod Columns
mod FirstRows
pub mod Sure
pub mod Surveys
mod Thinned

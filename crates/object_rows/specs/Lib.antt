pub mod Cells
pub mod Late
pub mod Numbers
pub mod Places
pub mod Rows
pub mod Seen

pub mod Attached

pub mod Before
pub mod Chosen
pub mod Frames

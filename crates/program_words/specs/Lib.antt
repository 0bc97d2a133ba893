pub mod WordsCommand
pub mod Reading
pub mod Asked

pub mod ColumnSteps
pub mod Entered
pub mod Greatest

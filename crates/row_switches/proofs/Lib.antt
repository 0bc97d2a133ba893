pub mod Each
pub mod RowsAfter
pub mod SwitchSteps

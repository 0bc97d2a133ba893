pub mod Ready
pub mod Switch

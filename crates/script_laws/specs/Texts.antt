pub mod Grammar
pub mod Expressions
pub mod Forms
pub mod Readings
pub mod Statements
pub mod Values

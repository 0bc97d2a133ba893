pub mod Clauses
pub mod Form
pub mod Forms
pub mod Read

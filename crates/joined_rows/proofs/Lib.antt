mod Steps
pub mod Widening
pub mod Targets
pub mod Options
pub mod RowLemmas
pub mod MemberLemmas
pub mod TakenSteps

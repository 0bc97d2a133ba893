pub mod AnswerSteps
pub mod FillSteps
pub mod FirstSteps
pub mod GivenSteps
pub mod KindLemmas
pub mod OwnerLemmas
pub mod QuerySteps

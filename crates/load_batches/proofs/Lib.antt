pub mod CutSteps
pub mod GroupSteps
pub mod MemberSteps
pub mod OwnerSteps
pub mod BatchSteps

pub mod BindingLemmas
pub mod DeclaringLemmas

pub mod ReadLemmas
pub mod CollectionLemmas
pub mod SetLemmas
pub mod MirrorLemmas
pub mod MemberLemmas
pub mod RepeatLemmas
pub mod HasLemmas

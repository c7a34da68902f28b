pub mod JoinedLemmas
pub mod NameLemmas
pub mod ObjectLemmas
pub mod ReadLemmas

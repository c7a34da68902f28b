pub mod ChainLemmas
pub mod NameLemmas
pub mod TextLemmas
pub mod DefinedLemmas
pub mod LawLemmas

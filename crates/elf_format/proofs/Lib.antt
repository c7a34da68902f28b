pub mod RecordLemmas
pub mod SectionLemmas
pub mod SearchLemmas
pub mod Leb128Lemmas
pub mod CrelLemmas
pub mod NumberLemmas

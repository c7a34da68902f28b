pub mod ClassNames
pub mod CompressionLemmas
pub mod DynamicLemmas
pub mod GroupLemmas
pub mod RelocationLemmas
pub mod SectionsFit
pub mod SonameLemmas
pub mod CauseLemmas

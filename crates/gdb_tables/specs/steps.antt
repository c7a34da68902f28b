-- Private steps: only private contracts cite these modules.
pub mod ObjectEntries
pub mod Distributed
pub mod Vectors
pub mod Keyed

-- Private steps: only private contracts cite these modules.
pub mod Writes
pub mod FreeSlots
pub mod Passed
pub mod FilledBytes
pub mod Lookup
pub mod Split
pub mod NamePrefix

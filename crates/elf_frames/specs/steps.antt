-- Private steps: only private contracts cite these modules.
pub mod EntryAt
pub mod Source
pub mod Starts
pub mod Links
pub mod Reached
pub mod Kept
pub mod Chain

-- Private steps: only private contracts cite these modules.
pub mod EntryParts
pub mod SetParts
pub mod CauseAt

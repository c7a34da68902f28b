-- Private steps: only private contracts cite these modules.
pub mod Names
pub mod Texts

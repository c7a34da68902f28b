-- Private steps: only private contracts cite these modules.
pub mod Compression

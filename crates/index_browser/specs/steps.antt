-- Private steps: only private contracts cite these modules.
pub mod Offsets
pub mod Taken
pub mod Placing
pub mod Listing

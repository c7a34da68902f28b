pub mod HexWords
pub mod LayoutLemmas
pub mod LineLemmas
pub mod ListingLemmas
pub mod NumberLemmas
pub mod NumberTexts
pub mod ReportLemmas
mod RowLemmas
pub mod WordLemmas

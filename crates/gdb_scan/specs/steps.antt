-- Private steps: only private contracts cite these modules.
pub mod Assigned
pub mod SymbolCause
pub mod Published
pub mod Gathered
pub mod ErrorOf

pub mod Appending
pub mod Template
pub mod Holding
pub mod Pieces
pub mod Framing
pub mod Sortable
pub mod Listing
pub mod Validity

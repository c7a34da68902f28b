pub mod Functions
pub mod Whole
pub mod Searching
pub mod OneCause
pub mod Sorted
pub mod Descending
pub mod Compared

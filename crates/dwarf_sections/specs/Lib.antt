pub mod UnitCause
pub mod Entries
pub mod Sets
pub mod Clean
pub mod UnitSearch
pub mod steps

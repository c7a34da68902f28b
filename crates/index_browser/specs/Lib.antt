pub mod Areas
pub mod Stored
pub mod Fault
pub mod Checked
pub mod NameList
pub mod Example
pub mod Laws
pub mod steps

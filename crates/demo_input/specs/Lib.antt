pub mod Object
pub mod Contribution
pub mod Generated
pub mod Laws
pub mod Demo

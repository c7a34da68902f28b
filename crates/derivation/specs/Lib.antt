pub mod Input
pub mod Objects
pub mod Valid
pub mod Cause
pub mod Laws
pub mod steps

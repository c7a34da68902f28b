pub mod Joined
pub mod Merged
pub mod Cause
pub mod Laws
pub mod steps

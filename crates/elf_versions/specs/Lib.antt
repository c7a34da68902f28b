pub mod Cause
pub mod Shown
pub mod steps

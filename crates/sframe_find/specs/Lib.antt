pub mod Frames
pub mod Scan
pub mod Ordered
pub mod Laws
pub mod Example
pub mod steps

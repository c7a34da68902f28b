pub mod Contents
pub mod Counting
pub mod InMemory
pub mod Reading

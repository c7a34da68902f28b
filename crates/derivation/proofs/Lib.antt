mod ByClass
mod Parsing
pub mod Phases
mod Refusing
mod Composing
pub mod Browsing
mod Answering

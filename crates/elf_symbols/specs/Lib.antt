pub mod SymbolExample
pub mod SymbolShape
pub mod SymbolTests
pub mod SymbolText

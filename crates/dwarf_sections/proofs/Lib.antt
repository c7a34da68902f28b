pub mod UnitReading
pub mod SetReading
pub mod SetFinding
pub mod UnitSearching

pub mod Json
pub mod LineRows
pub mod Lines
pub mod PageReadings
pub mod Selectors

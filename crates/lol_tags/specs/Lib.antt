pub mod Runs
pub mod States
pub mod Reading
pub mod Attributes
pub mod WorkedRows
pub mod Cuts
pub mod Places
pub mod Idling

pub mod Boxes
pub mod AsBox
pub mod Statuses
pub mod Closings
pub mod ReasonTables
pub mod Finishes
pub mod Starting

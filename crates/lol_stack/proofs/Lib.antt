pub mod NameOrder
pub mod NameBlockLemmas
pub mod NameChanges
pub mod NameMapLemmas
mod SpanLemmas
pub mod OpenNameLemmas
pub mod Refusals
pub mod StackLists
pub mod EsiNames
pub mod StackLevels

mod AttributeValues
mod MarkLemmas
mod MatcherLemmas
pub mod PredicateMarkLemmas
mod WordOffsets
pub mod CompiledValues
pub mod CompiledDecides

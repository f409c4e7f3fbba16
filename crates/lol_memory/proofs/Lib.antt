pub mod UnionLemmas
pub mod FormLemmas
pub mod MergeLemmas
pub mod HeldLemmas
pub mod SparseLemmas
pub mod WordsLemmas
pub mod IterLemmas
pub mod DrainLemmas

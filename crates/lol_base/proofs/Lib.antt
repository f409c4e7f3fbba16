pub mod Steps
pub mod CodeLemmas
pub mod ByteOrder
pub mod GrownInput

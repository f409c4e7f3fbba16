mod Common
pub mod Spared
mod Starts
mod VmStarts
mod TriedStartLemmas
mod Directives
mod VmFinishes
mod VmRefusals
mod VmData
mod FreeTagLemmas
mod SmallSelectors
pub mod Held
pub mod Counted
pub mod Gathered
pub mod Stops
pub mod Kept
pub mod Answered
pub mod Whole
mod ReportLengths
pub mod Children
pub mod StackCounting
pub mod GatheringLemmas
pub mod StackEnds
pub mod InstructionAddresses
mod Charging
mod KeysLoseNothing
mod Finding
mod InstructionLists
mod RangeSteps

pub mod StoppedRuns
pub mod ToldOn

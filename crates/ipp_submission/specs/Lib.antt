pub mod JobParts
pub mod JobRuns

pub mod CommandRoom
pub mod ReservedRuns

pub mod ProofPaths
pub mod Standings
pub mod ProofReplies
pub mod ProofSteps
pub mod Denials

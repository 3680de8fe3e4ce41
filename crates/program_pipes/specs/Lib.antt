pub mod Chains
pub mod ChainViews
pub mod Commands
pub mod ChainEnds
pub mod ChainRuns

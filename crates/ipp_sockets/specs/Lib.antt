pub mod LinkStates
pub mod UnwrittenBytes

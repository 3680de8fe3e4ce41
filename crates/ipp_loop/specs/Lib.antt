pub mod ClientPlaces
pub mod SharedStates

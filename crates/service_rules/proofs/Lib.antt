pub mod Costs
pub mod Seeing
pub mod Timing
pub mod Skipping
pub mod GoingFirst
pub mod ListenerLaws
pub mod Sweeping
pub mod Reserving

pub mod ReadSteps
pub mod Collections
pub mod Octets
pub mod MessageSpelling
pub mod Reading
pub mod Unfinished

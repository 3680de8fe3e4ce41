pub mod Closings
pub mod Types

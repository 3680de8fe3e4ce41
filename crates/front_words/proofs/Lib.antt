pub mod Blames
pub mod Simple

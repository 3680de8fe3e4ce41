pub mod Cuts
pub mod Looks

pub mod Answering
pub mod Drops

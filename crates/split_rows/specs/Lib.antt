pub mod Half
pub mod Replaced
pub mod Tellable
pub mod Writing

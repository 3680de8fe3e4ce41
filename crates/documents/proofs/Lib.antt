pub mod Joined
pub mod Placed
pub mod Moved

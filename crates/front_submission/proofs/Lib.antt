pub mod Keeping
pub mod Alone

pub mod Places
pub mod Steps
pub mod Staging
pub mod Appending
pub mod Reading
pub mod Windows

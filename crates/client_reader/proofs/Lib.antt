pub mod NoSends
pub mod Lines
pub mod Steps
pub mod Gives
pub mod AskLaws

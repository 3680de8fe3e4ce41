pub mod Edited
pub mod Halves

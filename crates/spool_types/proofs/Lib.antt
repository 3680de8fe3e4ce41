pub mod Lists
pub mod Words
pub mod Folded
pub mod Rooms

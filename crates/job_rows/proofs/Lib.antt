pub mod Rising
pub mod Holding
pub mod Ending
pub mod Found

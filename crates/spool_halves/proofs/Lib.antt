pub mod Edited
pub mod Elements
pub mod Halves
pub mod Going
pub mod HalfReports
pub mod ReadBack

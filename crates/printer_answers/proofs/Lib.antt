pub mod SelectedRows
pub mod Chains
pub mod Pauses
pub mod TwoAdded

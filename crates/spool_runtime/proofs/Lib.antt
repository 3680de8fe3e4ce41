pub mod Accepted
pub mod Sizes
pub mod Refusals
mod PrintLaws
pub mod LeftoverLaws
pub mod SessionLaws
pub mod UserFaults

pub mod Keys
pub mod Kept
pub mod ReasonSteps
pub mod Order
pub mod ReasonLaws
pub mod AttributeLaws
pub mod PageLaws

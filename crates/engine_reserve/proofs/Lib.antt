pub mod StepLaws
pub mod ServingLaws

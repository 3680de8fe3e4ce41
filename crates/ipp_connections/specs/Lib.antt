pub mod ConnectionBytes
pub mod ConnectionSteps
pub mod HeadParts

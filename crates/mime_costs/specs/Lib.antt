pub mod Conversions
pub mod Costs
pub mod SourceIndex
pub mod LeastWalk
pub mod ConversionFiles
pub mod ConversionFields
pub mod Walks

pub mod Pairs
pub mod OptionTexts
pub mod Printing
pub mod OptionFields
pub mod Files
pub mod FilterArguments
pub mod Environment

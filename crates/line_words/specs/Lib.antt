pub mod Blanks
pub mod Quotes
pub mod WordFields
pub mod Quoting
pub mod DecimalNumbers

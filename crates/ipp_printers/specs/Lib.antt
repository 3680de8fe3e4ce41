pub mod MediaNames
pub mod PropertyKinds
pub mod PropertyValues
pub mod PrinterLines
pub mod PrinterSections
pub mod PrinterFacts
pub mod LineReasons
pub mod SectionFields

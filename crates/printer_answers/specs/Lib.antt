pub mod PrinterAnswers
pub mod PrinterLaws
pub mod PrinterMedia
pub mod PrinterRows
pub mod PrinterSelections
pub mod PrinterSources

pub mod PrinterExamples

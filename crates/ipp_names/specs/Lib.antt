pub mod IppJobStates
pub mod IppOperations
pub mod IppPrinterStates
pub mod IppStatuses

pub mod IppSyntaxes
pub mod IppAttributes
pub mod IppTargets
pub mod IppChecks
pub mod IppActions
pub mod IppRequests
pub mod ServiceStatuses

pub mod JobReports
pub mod QueueReports
pub mod ServiceErrors
pub mod ShownUris

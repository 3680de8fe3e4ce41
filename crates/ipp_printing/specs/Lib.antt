pub mod JobCommands
pub mod PrintingJobs

pub mod EndedJobs

pub mod PagedJobs
pub mod SelectedRows
pub mod Years

pub mod Answers
pub mod Submissions
pub mod ParkedJobs
pub mod Requests

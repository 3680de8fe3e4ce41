pub mod PlainActs
pub mod Forms
pub mod WordFaults
pub mod CommandOptions
pub mod CommandParameters
pub mod Apps
pub mod ArgumentValues
pub mod AskedTasks

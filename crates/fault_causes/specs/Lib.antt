pub mod PlainCauses
pub mod DiskReasons
pub mod LineReasons
pub mod RejectedLines
pub mod Versions
pub mod StreamErrors
pub mod StreamCauses

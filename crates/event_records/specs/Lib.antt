pub mod Deeds
pub mod NumberedChanges
pub mod SeenTimes
pub mod EventLines

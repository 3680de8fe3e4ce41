pub mod DeviceUris
pub mod UriOptions
pub mod QuotedFields
pub mod BackendLines
pub mod DeviceLineReading
pub mod Taken

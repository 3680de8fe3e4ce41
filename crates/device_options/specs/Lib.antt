pub mod DeviceOptions

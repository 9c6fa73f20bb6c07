pub mod DeviceFields

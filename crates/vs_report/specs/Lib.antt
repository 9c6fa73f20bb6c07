pub mod Bytes
pub mod GuestLines
pub mod DeviceLines
pub mod HostLines
pub mod Report
pub mod Gives
pub mod Answers

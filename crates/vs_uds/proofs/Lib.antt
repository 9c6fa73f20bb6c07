pub mod Leading
pub mod Ports
pub mod Readings
pub mod OkLines
pub mod ConnectLines
pub mod Decided

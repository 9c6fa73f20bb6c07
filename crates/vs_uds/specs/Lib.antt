pub mod ConnectLine
pub mod OkLine
pub mod Path
pub mod Port
pub mod Reading
pub mod Scan

pub mod OverRings
pub mod Served
pub mod Devices
pub mod Driven
pub mod Playing
pub mod Journal
pub mod LinesPlayed
pub mod Scripts

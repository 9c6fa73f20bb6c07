pub mod Dry
pub mod Bounds
pub mod Labels
pub mod Complete
pub mod Places

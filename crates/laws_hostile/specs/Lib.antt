pub mod Recorded
pub mod Isolated
pub mod Worked

pub mod Echoed
pub mod Over

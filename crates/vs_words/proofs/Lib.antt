pub mod Numerals
pub mod Rules
pub mod Steps
pub mod Walks
pub mod Readings

pub mod PlayLines
pub mod Counting
pub mod Reached
pub mod Lawful

pub mod Once
pub mod Scripted
pub mod Tallies

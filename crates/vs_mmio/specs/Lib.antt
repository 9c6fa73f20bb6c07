pub mod Queue
pub mod Registers

pub mod Steps
pub mod Lines
pub mod Failing
pub mod Packets
pub mod Safe

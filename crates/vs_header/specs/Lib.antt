pub mod Kind
pub mod Op
pub mod Packet

pub mod Bytes
pub mod Lines
pub mod Streams
pub mod Frames
pub mod Connections

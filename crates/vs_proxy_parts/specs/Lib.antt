pub mod State
pub mod Handshakes
pub mod Turns
pub mod Growing
pub mod HandshakeFields
pub mod Turning
pub mod Used

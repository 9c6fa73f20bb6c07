-- What the conversations of device and proxy keep, over any ring and any host: each is walked once.
pub mod Keeping
pub mod Serving
pub mod Taking
pub mod Turning
pub mod Fields
pub mod Single

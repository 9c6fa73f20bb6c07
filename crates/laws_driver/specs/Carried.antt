-- The bytes of the driver's connections, over any ring that tells its log: what its calls put, and what they gave.
pub mod Sent
pub mod Received
pub mod Calls
pub mod Senders

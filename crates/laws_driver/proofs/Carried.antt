-- The bytes of the driver's connections, over any ring that tells its log: what its calls put, and what they gave.
pub mod Growing
pub mod Sending
pub mod Receiving
pub mod Reading
pub mod Changing
pub mod Ending
pub mod Logging
pub mod Polling
pub mod Connecting
pub mod Making
pub mod Journaling
pub mod Senders
pub mod Righting
pub mod Deciding
pub mod SamePages

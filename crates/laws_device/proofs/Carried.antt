-- What the host's streams took and gave, against the packets of the device's log.
pub mod Lines
pub mod Tabled
pub mod Streamed
pub mod Counted
pub mod Hosts
pub mod HostCalls
pub mod Hands
pub mod Opens
pub mod Gives
pub mod Cids
pub mod Short
pub mod Changing
pub mod Closing

-- What the host's streams took and gave, against the packets of the device's log.
pub mod Streamed

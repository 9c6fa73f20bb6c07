-- The account of the host's streams, over any ring and any host: what the proxy gives to a stream are the payloads delivered on the
-- stream's own connection, behind the OK line (Virtio 1.2, section 5.10.6; Firecracker's vsock documentation).
pub mod Keeping
pub mod Accounts
pub mod Entries
pub mod Ties
pub mod Closing
pub mod Writing
pub mod Transmitting
pub mod Receiving
pub mod Opening
pub mod Shaking
pub mod Turning
pub mod Judging
pub mod Shown
pub mod Carrying
pub mod Growing
pub mod Telling
pub mod Walks
pub mod Quiet
pub mod Packets
pub mod Events

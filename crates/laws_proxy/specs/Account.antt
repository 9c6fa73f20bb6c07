-- The account of the host's streams, over any ring and any host: what the proxy gives to a stream are the payloads delivered on the
-- stream's own connection, behind the OK line (Virtio 1.2, section 5.10.6; Firecracker's vsock documentation).
pub mod Made
pub mod Tied
pub mod Judged
pub mod Counts
pub mod Packets
pub mod Carried
pub mod Told
pub mod Events

-- Where a ring tells the device's log: the proxy and its ring.
use Rattle.std.specs.Prelude.{ℕ, ◌≤◌, Bool, false}
use Rattle.vs_limits.specs.declared.TheConstants.{ASSIGNED_FIRST}
use Rattle.vs_ring_port.specs.Contents.{RingContents}
use Rattle.laws_device.specs.{Honest.IsWith, Streams.AreStreamedSince}
use Rattle.vs_proxy_parts.specs.State.{ProxyState}
use Rattle.vs_device_parts.specs.Calls.{Situation}

-- The proxy's device is with the ring, and its next host port is the next one that the device assigns.
abbrev pub IsProxyWith : ℕ → ProxyState → RingContents → Type 0
IsProxyWith first s c = (ASSIGNED_FIRST ≤ s.next_port) × IsWith first s.next_port s.device c

-- Its lines and its device's connections are what the host's streams took and gave. Where it accepted all clients, its lines are those of all accepted ones
-- whose streams have no label and aren't closed.
abbrev pub IsProxyStreamedSince : Bool → ℕ → ProxyState → Situation → Type 0
IsProxyStreamedSince fresh first s a = AreStreamedSince fresh first s.next_port s.handshakes s.device a

abbrev pub IsProxyStreamed : ℕ → ProxyState → Situation → Type 0
IsProxyStreamed first s a = IsProxyStreamedSince false first s a

-- The proxy and its ring, where that tells the device's log, honest or not.
use Rattle.std.specs.Prelude.{ℕ, ◌≤◌}
use Rattle.vs_limits.specs.declared.TheConstants.{ASSIGNED_FIRST}
use Rattle.vs_ring_port.specs.Contents.{RingContents}
use Rattle.laws_device.specs.Told.{IsToldWith}
use Rattle.vs_proxy_parts.specs.State.{ProxyState}

-- The proxy's device is as the log left it, as far as packets come in order, and its next host port is the next one that the device assigns.
abbrev pub IsProxyTold : ℕ → ProxyState → RingContents → Type 0
IsProxyTold first s c = (ASSIGNED_FIRST ≤ s.next_port) × IsToldWith first s.next_port s.device c

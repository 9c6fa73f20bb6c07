-- What a transport reset leaves (Virtio 1.2, section 5.10.6.7).
use Rattle.std.specs.Prelude.{◌≡◌, []}
use Rattle.vs_proxy_parts.specs.State.{ProxyState}

-- What the device and its proxy hold right after it.
pub record IsEmptied (s : ProxyState) : Type 0 where
  pub table : s.device.table.entries ≡ []
  pub replies : s.device.replies ≡ []
  pub handshakes : s.handshakes ≡ []

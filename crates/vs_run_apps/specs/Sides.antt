-- The device of a run: the proxy, its end of the rings, what the host exposes, and the name of the borrow of that host.
use Rattle.std.specs.Prelude.{◌≡◌, ℕ, [], Option}
use Rattle.vs_outside.specs.Host.{HostContents}
use Rattle.vs_ring_port.specs.Chains.{chains_of}
use Rattle.vs_ring_shared.specs.Sights.{DeviceSight, device_contents}
use Rattle.vs_device_parts.specs.{Calls.Situation, Playing.IsItsRing, Playing.situation}
use Rattle.vs_proxy_parts.specs.State.{ProxyState}
use Rattle.laws_settled.specs.{Begun.IsBegun, Begun.Start, Settled.IsSteady}

pub record SideState : Type 0 where
  pub proxy : ProxyState
  pub ring : DeviceSight
  pub contents : Option HostContents
  pub faults : ℕ

pub record Side : Type 0 where
  pub state : SideState
  pub lent : ℕ

-- What the proxy has to do with.
abbrev pub around : SideState → Situation
around s = situation (device_contents s.ring) s.contents s.faults

-- The ring is the proxy's, and the proxy is steady with its ring and its host: so it may be turned. It began with this.
pub record IsReady (start : Start) (s : SideState) : Type 0 where
  pub ring : IsItsRing (chains_of s.ring.held) s.proxy.device
  pub steady : IsSteady s.proxy (around s)
  pub begun : IsBegun start s.proxy (around s)

-- Nothing passed on the device's end.
pub record IsSilent (ring : DeviceSight) : Type 0 where
  pub log : ring.sight.log ≡ []
  pub held : ring.held ≡ []

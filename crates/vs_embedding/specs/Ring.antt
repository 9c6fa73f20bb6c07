-- What a monitor's ring keeps: the size of its queues, the chains that the device holds, newest first, and for how many it has room.
use Rattle.std.specs.Prelude.{ℕ, List, Option, None, false}
use Rattle.vs_device_parts.specs.{Calls.Situation, Playing.IsItsRing, Playing.situation}
use Rattle.laws_proxy.specs.Order.{IsInOrder}
use Rattle.vs_ring_port.specs.{Contents.RingContents, declared.device_ring.Chain.Chain}
use Rattle.vs_outside.specs.Host.{HostContents}
use Rattle.vs_proxy_parts.specs.State.{ProxyState}

pub record RingState : Type 0 where
  pub size : ℕ
  pub held : List Chain
  pub room : ℕ

-- A ring that exposes nothing.
abbrev pub silent : RingContents
silent = record { lists = None; log = None; other = None; plain = None; known = None; honest = false }

-- A monitor's device: its proxy and the ring; the host's streams, where it exposes them, and how many of its calls failed.
pub record MonitorState : Type 0 where
  pub proxy : ProxyState
  pub ring : RingState
  pub streams : Option HostContents
  pub faults : ℕ

-- What surrounds the proxy.
abbrev pub around : MonitorState → Situation
around m = situation silent m.streams m.faults

-- Between its calls the proxy holds the ring's chains, and is in order.
pub record IsServing (m : MonitorState) : Type 0 where
  pub chains : IsItsRing m.ring.held m.proxy.device
  pub order : (first : ℕ) × IsInOrder first m.proxy (around m)

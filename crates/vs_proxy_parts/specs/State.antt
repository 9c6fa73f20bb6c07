-- What the proxy holds: the device, and the handshakes of clients that didn't write their line yet.
use Rattle.std.specs.Prelude.{ℕ, List}
use Rattle.vs_device_parts.specs.State.{DeviceState}

-- A client's stream, the moment at which it was accepted, and the bytes that were read of its CONNECT line.
pub record Handshake : Type 0 where
  pub stream : ℕ
  pub accepted_at : ℕ
  pub line : List ℕ

pub record ProxyState : Type 0 where
  pub device : DeviceState
  -- In the order in which they were accepted.
  pub handshakes : List Handshake
  -- The host port that the next connection of a client gets.
  pub next_port : ℕ

-- A turn in progress: what it did so far.
pub record Turning : Type 0 where
  pub state : ProxyState
  pub took : ℕ
  pub put : ℕ
  pub read : ℕ
  pub wrote : ℕ
  pub hands : ℕ

abbrev pub start : ProxyState → Turning
start s = record { state = s; took = 0; put = 0; read = 0; wrote = 0; hands = 0 }

abbrev pub with_device : DeviceState → ProxyState → ProxyState
with_device d s = record s { device = d }

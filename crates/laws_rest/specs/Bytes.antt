-- What a connection carries from one end to the other: driver and device with their logs, over any rings, and the streams of any host.
use Rattle.std.specs.Prelude.{◌≡◌, ℕ, ◌++◌, true, List, Some}
use Rattle.vs_flow.specs.Connection.{Connection}
use Rattle.laws_history.specs.declared.packet.Packet.{Packet}
use Rattle.vs_outside.specs.{Host.HostContents, HostBytes.{host_read, host_wrote}}
use Rattle.vs_page.specs.{Fair.{IsFairLog, IsPrefixOf, payload_got, payload_put}, Log.{Driver, Log, Role, other_role, packets_got, packets_put}}
use Rattle.vs_ring_port.specs.{Contents.RingContents, EndLog.EndLog}
use Rattle.laws_tables.specs.Both.{Both, at}
use Rattle.vs_driver_parts.specs.State.{DriverState}
use Rattle.laws_driver.specs.Honest.{ends_of_state as driver_ends}
use Rattle.vs_device_parts.specs.Calls.{Situation}
use Rattle.laws_device.specs.{Honest.ends_of_state as device_ends, Streams.AreHeard}
use Rattle.vs_proxy_parts.specs.State.{ProxyState}

-- All packets that an end got are those that the other put first.
abbrev pub HasGotFirst : Log → Log → Type 0
HasGotFirst mine other = (rest : List Packet) × (packets_put other ≡ rest ++ packets_got mine)

-- Both logs are fair, and each end got first what the other put.
pub record BothEnds (b : Both) : Type 0 where
  pub fair : (role : Role) → IsFairLog role (at role b).log
  pub got : (role : Role) → HasGotFirst (at role b).log (at (other_role role) b).log

-- These bytes were sent on a connection, and these were received on it, by the driver's log.
pub record AreTied (log : Log) (c : Connection) (sent received : List ℕ) : Type 0 where
  pub puts : payload_put Driver c log ≡ sent
  pub gets : IsPrefixOf received (payload_got Driver c log)

-- What the host's program read of a connection is a prefix of what was sent on it, and what was received is a prefix of what that program
-- wrote.
pub record CarryBytes (c : Connection) (sent received : List ℕ) (h : HostContents) : Type 0 where
  pub to_host : IsPrefixOf (host_read c h) sent
  pub to_guest : IsPrefixOf received (host_wrote c h)

-- Two honest rings tell these logs, and a host exposes its streams. Driver and device are with them, and the device, where this was the
-- guest's CID at first, dropped no payload of a connection.
pub record AreTold (first : ℕ) (d : DriverState) (c : RingContents) (p : ProxyState) (a : Situation) (l m : EndLog) (h : HostContents)
    : Type 0 where
  pub driver_honest : c.honest ≡ true
  pub device_honest : a.ring.honest ≡ true
  pub driver_log : c.log ≡ Some l
  pub device_log : a.ring.log ≡ Some m
  pub host : a.host ≡ Some h
  pub heard : AreHeard first m.entries
  pub ends : BothEnds (record {
    driver = record { part = driver_ends d; log = l.entries };
    device = record { part = device_ends p.next_port p.device; log = m.entries };
  })

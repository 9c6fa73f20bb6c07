-- What of both ends' bytes holds at rest: all payload arrived, and the host's streams took and gave it.
use Rattle.std.proofs.lemmas.Grind.{common_steps}
use Rattle.std.proofs.Common.{arith}
use Rattle.std.proofs.Common.{◌≡◌, ℕ, ◌≤◌, true, false, Bool, [], ◌∷◌, Some, refl, sym, ap, ◌∙◌}
use Rattle.vs_flow.specs.{Connection.Connection, declared.flow.Flow.Flow}
use Rattle.vs_limits.specs.declared.TheConstants.{FIRST_CID}
use Rattle.laws_history.specs.{History.{gots, puts}}
use Rattle.vs_outside.specs.{Host.HostContents, HostBytes.host_wrote}
use Rattle.vs_page.specs.{Fair.{current, number_of, payload_got, payload_put}, Log.{Device, Driver, Log, Role, flow_got, other_role}}
use Rattle.vs_page.specs.{Log.{packets_got, packets_put, whole_of}, declared.log.LogEntry.TheVariants.{GotEvent, GotPacket, Mark, PutEvent, PutPacket}}
use Rattle.vs_page.proofs.{Entries.got_on, Flows.{opposite_by, same_self}}
use Rattle.vs_driver_parts.specs.State.{DriverState}
use Rattle.vs_device_parts.specs.Playing.{situation}
use Rattle.vs_ring_shared.specs.Sights.{DeviceSight, Sight, device_contents, device_log}
use Rattle.vs_proxy_parts.specs.State.{ProxyState}
use Rattle.laws_device.specs.{Streams.AreHeard, Carried.Streamed.{IsStreamed, lasting, ports_of}}
use Rattle.laws_rest.proofs.{Standing.{AreKept, device_kept}, Hosts.wrote_is_put}
use Rattle.laws_proxy.specs.Honest.{IsProxyStreamed, IsProxyStreamedSince}
use Rattle.laws_settled.specs.Settled.{IsSettled}

-- Where an end got all that the other put, both have the same payload, and the same number of connections.
module _ (role : Role) (mine other : Log) (all : packets_put other ≡ packets_got mine) where
  pub there : (f : Flow) → puts (whole_of (other_role role) f other) ≡ gots (whole_of role f mine)
  there f = got_on role f mine other [] all

  pub same_payload : (c : Connection) → payload_put (other_role role) c other ≡ payload_got role c mine
  same_payload c = grind (arith, common_steps, opposite_by, there)

same_number : (driver device : Log) (f : Flow) → packets_put driver ≡ packets_got device → packets_put device ≡ packets_got driver
    → number_of Driver f driver ≡ number_of Device f device
same_number driver device f to_device to_driver = grind (arith, common_steps, opposite_by, there)

-- A device that dropped no packet dropped no payload.
all_heard : (first : ℕ) (log : Log) → ((f : Flow) → AreKept Device first f log) → AreHeard first log
all_heard first [] kept = tt
all_heard first (PutPacket p ∷ log) kept = all_heard first log kept
all_heard first (GotPacket p ∷ log) kept = (
  λ dropped left. let own = (kept (flow_got Device p)).0 (same_self (flow_got Device p)) in
      let no : true ≡ false = sym dropped ∙ own in absurd cc,
  all_heard first log (λ f. (kept f).1),
)
all_heard first (PutEvent id ∷ log) kept = all_heard first log kept
all_heard first (GotEvent id ∷ log) kept = all_heard first log kept
all_heard first (Mark cid ∷ log) kept = all_heard first log kept

module _ (d : DriverState) (driver : Sight) (p : ProxyState) (device : DeviceSight) (settled : IsSettled d driver p device) where
  pub to_device : packets_put driver.log ≡ packets_got device.sight.log
  to_device = settled.at_rest.got Device

  pub to_driver : packets_put device.sight.log ≡ packets_got driver.log
  to_driver = settled.at_rest.got Driver

  -- The present connection of a flow is the same one at both ends.
  pub same_current : (f : Flow) → current Driver f driver.log ≡ current Device f device.sight.log
  same_current f = ap (λ (n : ℕ). let c : Connection = record { flow = f; number = n } in c) (same_number driver.log device.sight.log f to_device to_driver)

  pub heard : AreHeard FIRST_CID device.sight.log
  heard = all_heard FIRST_CID device.sight.log (λ f. device_kept FIRST_CID f driver.log device.sight.log (settled.at_rest.no_reset Driver)
      (settled.at_rest.no_reset Device) settled.at_rest.routed to_device)

  -- What is known of a host since the run began, or nothing.
  pub streamed_since : (fresh : Bool) (h : HostContents) (faults : ℕ) → IsProxyStreamedSince fresh FIRST_CID p (situation (device_contents device) (Some h) faults)
      → IsStreamed h device.sight.log (ports_of (lasting fresh) p.next_port p.device) p.device.table p.handshakes
  streamed_since fresh h faults streams = streams refl (device_log device) refl heard h refl

  module _ (h : HostContents) (faults : ℕ) (streams : IsProxyStreamed FIRST_CID p (situation (device_contents device) (Some h) faults)) where
    pub streamed : IsStreamed h device.sight.log (ports_of (lasting false) p.next_port p.device) p.device.table p.handshakes
    streamed = streamed_since false h faults streams

    pub wrote_there : (c : Connection) → 1 ≤ c.number → payload_got Driver c driver.log ≡ host_wrote c h
    wrote_there c some =
        sym (same_payload Driver driver.log device.sight.log to_driver c)
        ∙ wrote_is_put h device.sight.log (ports_of (lasting false) p.next_port p.device) p.device.table p.handshakes streamed c some

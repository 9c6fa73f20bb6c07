-- From what the last round tells to the ends at rest.
use Rattle.std.proofs.{Common.{◌≡◌, ◌+◌, ◌||◌, ℕ, Bool, true, false, List, [], ◌∷◌, ◌++◌, length, refl, sym, ap, subst, ◌∙◌, arith}, lemmas.Grind.common_steps}
use Rattle.std.{proofs.lemmas.List.Elements.{All-head, All-tail}, specs.{List.All, Prelude.map}}
use Rattle.vs_flow.specs.{Flow.same_flow, declared.flow.Flow.Flow}
use Rattle.vs_limits.specs.declared.TheConstants.{FIRST_CID, HOST_CID}
use Rattle.laws_history.specs.declared.packet.Packet.{Packet}
use Rattle.vs_page.specs.{Fair.IsFairLog, Held.{held_in, packet_held}, Log.{Device, Driver, Log, Role, events_got, events_put, other_role, packets_got, packets_put}}
use Rattle.vs_page.{specs.declared.log.LogEntry.TheVariants.{GotEvent, GotPacket, Mark, PutEvent, PutPacket}, proofs.Flows.same_is}
use Rattle.vs_ring_port.specs.{declared.queue.Queue.TheVariants.{Rx, Tx}}
use Rattle.vs_ring_shared.specs.Sights.{DeviceSight, Sight}
use Rattle.laws_tables.specs.{Both.{Both, at}, Ends.{flows_of, is_among}, Matches.Matches}
use Rattle.vs_driver_parts.specs.State.{DriverEntry, DriverState}
use Rattle.laws_driver.specs.{Honest.IsFitEntry, Resets.MarksResets}
use Rattle.laws_rest.{specs.{Pages.Queued, Rest.{IsAtRest, IsWithHost, OwesNothing, has_no_mark}}, proofs.{Counting.same_numbers, Pages.{all_back, all_there}, Resting.paired}}
use Rattle.laws_rest.proofs.Resting.{same_flows}
use Rattle.vs_proxy_parts.specs.State.{ProxyState}
use Rattle.laws_settled.specs.{Hosts.AreWithHost, Settled.{AreOver, IsSettled, ends_at_rest}}

-- A driver that was told of no event made no reset.
unmarked : (log : Log) → MarksResets log → events_got log ≡ [] → has_no_mark log ≡ true
unmarked [] marks none = refl
unmarked (PutPacket p ∷ log) marks none = unmarked log marks none
unmarked (GotPacket p ∷ log) marks none = unmarked log marks none
unmarked (PutEvent id ∷ log) marks none = unmarked log marks none
unmarked (GotEvent id ∷ log) marks none = absurd cc
unmarked (Mark cid ∷ []) marks none = absurd marks
unmarked (Mark cid ∷ GotEvent id ∷ log) marks none = absurd cc
unmarked (Mark cid ∷ PutPacket p ∷ log) marks none = absurd marks
unmarked (Mark cid ∷ GotPacket p ∷ log) marks none = absurd marks
unmarked (Mark cid ∷ PutEvent id ∷ log) marks none = absurd marks
unmarked (Mark cid ∷ Mark other ∷ log) marks none = absurd marks

none_after : (rest got put : List ℕ) → put ≡ rest ++ got → put ≡ [] → got ≡ []
none_after [] got put is none = sym is ∙ none
none_after (x ∷ rest) got put is none = absurd (let no : [] ≡ x ∷ (rest ++ got) = sym none ∙ is in cc)

-- All flows are with the host.
among_host : (f : Flow) (fs : List Flow) → AreWithHost fs → is_among f fs ≡ true → f.peer ≡ HOST_CID
among_host f [] all is = absurd cc
among_host f (g ∷ gs) all is = by (same_flow f g) refl is (among_host f gs all.1)
  where
    by : (b : Bool) → same_flow f g ≡ b → (b || is_among f gs) ≡ true → (is_among f gs ≡ true → f.peer ≡ HOST_CID) → f.peer ≡ HOST_CID
    by true same is rest = ap (λ (h : Flow). h.peer) (same_is f g same) ∙ all.0
    by false other is rest = rest is

fit_hosts : (es : List DriverEntry) → All (IsFitEntry true) es → AreWithHost (flows_of (map (λ (e : DriverEntry). record { flow = e.flow; end = e.value.end }) es))
fit_hosts [] all = tt
fit_hosts (e ∷ es) all = ((All-head (IsFitEntry true) e es all).peer refl, fit_hosts es (All-tail (IsFitEntry true) e es all))

module _ (n : ℕ) (d : DriverState) (driver : Sight) (p : ProxyState) (device : DeviceSight) (over : AreOver n d driver p device) where
  abbrev both : Both
  both = ends_at_rest d driver p device

  tx : Queued
  tx = record { driver_gave = driver.tx.put; driver_took = driver.tx.got; device_took = device.sight.tx.got; device_gave = device.sight.tx.put }

  rx : Queued
  rx = record { driver_gave = driver.rx.put; driver_took = driver.rx.got; device_took = device.sight.rx.got; device_gave = device.sight.rx.put }

  tx_same : driver.tx.put ≡ device.sight.tx.got
  unfolding tx
  tx_same =
      let held = over.device_took Tx in
      let took = over.driver_took Tx in
      let none = over.none_in_flight in
      all_there tx (record { there = over.tied.there Tx; back = over.tied.back Tx; held = omega (arith, held) }) (omega (arith, took, none))

  pub rx_flight : length driver.rx.put ≡ length driver.rx.got + n
  rx_flight = grind (arith, common_steps)

  rx_same : device.sight.rx.put ≡ driver.rx.got
  unfolding rx
  rx_same =
      let held = over.device_took Rx in
      all_back n rx (record { there = over.tied.there Rx; back = over.tied.back Rx; held = omega (arith, held) })
      (record { flight = rx_flight; given = over.all_given })

  to_device : packets_put driver.log ≡ packets_got device.sight.log
  to_device = over.tied.driver_log.put ∙ ap (λ pages. held_in packet_held pages) tx_same ∙ sym over.tied.device_log.got

  to_driver : packets_put device.sight.log ≡ packets_got driver.log
  to_driver = over.tied.device_log.put ∙ ap (λ pages. held_in packet_held pages) rx_same ∙ sym over.tied.driver_log.got

  device_owes : OwesNothing both.device.part
  device_owes = grind (arith, common_steps)

  matches : (role : Role) → Matches role FIRST_CID (at role both).part (at role both).log
  matches Driver = over.driver_agrees.matches
  matches Device = over.device_agrees.matches

  fair : (role : Role) → IsFairLog role (at role both).log
  fair Driver = over.driver_agrees.fair
  fair Device = over.device_agrees.fair

  got : (role : Role) → packets_put (at (other_role role) both).log ≡ packets_got (at role both).log
  got Driver = to_driver
  got Device = to_device

  no_reset : (role : Role) → has_no_mark (at role both).log ≡ true
  no_reset Driver =
      unmarked driver.log over.driver_agrees.marks
      (none_after over.tied.driver_got.events.0 (events_got driver.log) (events_put device.sight.log) over.tied.driver_got.events.1 over.no_event)
  no_reset Device = over.no_mark

  owes : (role : Role) → OwesNothing (at role both).part
  owes Driver = over.driver_owes
  owes Device = device_owes

  at_rest : IsAtRest FIRST_CID both
  at_rest = record {
    matches = matches;
    fair = fair;
    got = got;
    no_reset = no_reset;
    routed = over.routed (subst (λ (ps : List Packet). All (λ (q : Packet). q.header.src_cid ≡ HOST_CID) ps) to_driver over.hosts.puts);
    owes = owes;
  }

  with_host : (role : Role) → IsWithHost (at role both).part
  with_host Driver f = among_host f (flows_of both.driver.part.entries) (fit_hosts d.table.entries over.driver_agrees.fits.entries)
  with_host Device f = among_host f (flows_of both.device.part.entries) over.hosts.entries

  pub settled : IsSettled d driver p device
  settled = record {
    at_rest = at_rest;
    with_host = with_host;
    same_flows = λ f host. same_flows FIRST_CID both f host at_rest;
    paired = λ role f e host has. paired role FIRST_CID both f e host at_rest has;
    as_many = same_numbers FIRST_CID both with_host at_rest;
    tx_pages = tx_same;
    rx_pages = rx_same;
  }

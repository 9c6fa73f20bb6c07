-- What a device's call leaves of what the driver's end sees: its log, the size of the rings, and how many pages are in flight.
use Rattle.std.proofs.{Common.{◌≡◌, ℕ, List, [], ◌∷◌, refl, arith}, lemmas.Grind.common_steps}
use Rattle.vs_ring_port.specs.{Contents.{DeviceCall, DeviceAnswer, Take, Read, Write, Return, Given, PublishCid}, Counts.Counts, DeviceCalls.device_answer}
use Rattle.vs_ring_port.specs.{EndLog.log_taken, Lists.{Rings, after_return, after_take, next_at, next_given, queue_of}, declared.queue.Queue.{Queue, TheVariants.{Rx, Tx, Event}}}
use Rattle.vs_ring_list.{specs.Ends.{Ends, device_contents, flight_of}, proofs.Flights.{flight_of-taken, in_flight-written, in_flight-returned}}
use Rattle.vs_device_parts.specs.Calls.{Ring}
use Rattle.laws_world.proofs.Holding.{IsHeldFor}

pub record LeavesDriver (old new : Ends) : Type 0 where
  pub driver : new.driver ≡ old.driver
  pub size : new.lists.size ≡ old.lists.size
  pub flight : flight_of new ≡ flight_of old

pub leaves_stay : (v : Ends) → LeavesDriver v v
leaves_stay v = record { driver = refl; size = refl; flight = refl }

pub leaves_then : (u v w : Ends) → LeavesDriver u v → LeavesDriver v w → LeavesDriver u w
leaves_then u v w first rest = grind (arith, common_steps)

same_counts : (f g : Counts) → f.rx ≡ g.rx → f.tx ≡ g.tx → f.event ≡ g.event → f ≡ g
same_counts f g rx tx event = λ i. record { rx = rx i; tx = tx i; event = event i }

abbrev taken : Queue → Ends → Ends
taken queue w =
    let page = next_given queue w.lists in
    record w { lists = after_take queue w.lists; device = log_taken queue (next_at queue (queue_of queue w.lists).place page) page w.device }

-- The rings after a call.
abbrev after : DeviceCall → Ends → Ends
after call v = let r = device_answer call (v.lists, v.device) in record v { lists = r.1.0; device = r.1.1 }

none_taken : (queue : Queue) (v : Ends) → (queue_of queue v.lists).given ≡ [] → flight_of (taken queue v) ≡ flight_of v
none_taken Rx v e = rw e refl
none_taken x v e = rw e refl

take_leaves : (queue : Queue) (v : Ends) (given : List (List ℕ)) → (queue_of queue v.lists).given ≡ given → flight_of (taken queue v) ≡ flight_of v
take_leaves queue v [] e = none_taken queue v e
take_leaves queue v (page ∷ pages) e = flight_of-taken queue page pages v e

size_taken : (queue : Queue) (v : Ends) → (taken queue v).lists.size ≡ v.lists.size
size_taken Rx v = refl
size_taken x v = refl

size_returned : (queue : Queue) (page : List ℕ) (w : Rings) → (after_return queue page w).size ≡ w.size
size_returned Rx page w = refl
size_returned x page w = refl

leaves : (call : DeviceCall) (v : Ends) → IsHeldFor (Ring call) (device_contents v) → LeavesDriver v (after call v)
leaves (Take queue) v can = record {
  driver = refl;
  size = size_taken queue v;
  flight = take_leaves queue v (queue_of queue v.lists).given refl;
}
leaves (Read chain place count) v can = leaves_stay v
leaves (Write chain place bytes) v can = record {
  driver = refl;
  size = refl;
  flight = same_counts _ _ (in_flight-written Rx chain place bytes v) (in_flight-written Tx chain place bytes v)
      (in_flight-written Event chain place bytes v);
}
leaves (Return chain len) v can = let held = can v.device refl in record {
  driver = refl;
  size = size_returned chain.queue _ v.lists;
  flight = same_counts _ _ (in_flight-returned Rx chain len v held) (in_flight-returned Tx chain len v held)
      (in_flight-returned Event chain len v held);
}
leaves (Given queue) v can = leaves_stay v
leaves (PublishCid cid) v can = record { driver = refl; size = refl; flight = refl }

pub leaves_call : (call : DeviceCall) (a : DeviceAnswer call) (v w : Ends) → IsHeldFor (Ring call) (device_contents v)
    → device_answer call (v.lists, v.device) ≡ (a, (w.lists, w.device)) → w.driver ≡ v.driver → LeavesDriver v w
leaves_call call a v w can answer driver = grind (arith, common_steps, leaves)

-- Rings that are made are in order.
use Rattle.std.proofs.Common.{◌≡◌, ℕ, ◌+◌, ◌*◌, ◌-◌, ◌%◌, ◌≤◌, Bool, true, false, cond, Option, Some, None, IfSome, length, refl, ap, ◌∙◌}
use Rattle.std.{proofs.Common.sym, proofs.Common.ap₂, proofs.Common.arith, specs.Prelude.nat_le, proofs.lemmas.Bool.Decides.nat_tests}
use Rattle.vs_guest_mem.specs.Memory.{Memory}
use Rattle.vs_limits.specs.declared.TheConstants.{FIRST_CID}
use Rattle.vs_plain_driver.specs.{Queue.DriverQueueState, Queue.cleared_avail, View.ArePagesIn}
use Rattle.vs_layout.specs.{Layout.queue_areas_of, declared.placement.QueueAreas.QueueAreas}
use Rattle.vs_ring_plain.specs.Device.{DeviceState, areas_at, cleared_used, new_device, with_memory}
use Rattle.vs_ring_port.specs.declared.queue.Queue.{Queue, TheVariants.Rx, TheVariants.Tx, TheVariants.Event}
use Rattle.laws_plain_rings.specs.Parts.{PartsState, cleared, new_parts, new_queue, pages_behind, pages_start}
use Rattle.vs_plain_rings.specs.View.{AreInOrder}

-- n pages, k bytes behind the first of 3n, lie in the memory
pages_if : (m : Memory) (at n k : ℕ) (b : Bool) → nat_le (at + 3 * (4096 * n)) (m.base + length m.bytes) ≡ b → m.base ≤ at
    → k ≤ 2 * (4096 * n)
    → IfSome (pages_behind (cond b (Some at) None) k) (λ x. (m.base ≤ x) × (x + 4096 * n ≤ m.base + length m.bytes))
pages_if m at n k false test from less = tt
pages_if m at n k true test from less =
    let top : at + 3 * (4096 * n) ≤ m.base + length m.bytes = grind (arith, nat_tests, test) in
    (omega (arith, from), omega (arith, top, less))

behind_none : (o : Option ℕ) → pages_behind o 0 ≡ o
behind_none None = refl
behind_none (Some at) = ap (λ x. Some x) (omega arith)

pages_fit : (m new : Memory) (end n k : ℕ) (q : DriverQueueState) → q ≡ new_queue n (pages_behind (pages_start m end n) k) → m.base ≤ end
    → k ≤ 2 * (4096 * n) → new.base ≡ m.base → length new.bytes ≡ length m.bytes → ArePagesIn q new
pages_fit m new end n k q is from less base size =
    let at : ℕ = end + (4096 - end % 4096) % 4096 in
    rw (is, base, size) (pages_if m at n k (nat_le (at + 3 * (4096 * n)) (m.base + length m.bytes)) refl (omega (arith, from)) less)

pub order_new : (m : Memory) (end n : ℕ) (p : PartsState) → m.base ≤ end → p.device.size ≡ n → p.device.memory.base ≡ m.base
    → length p.device.memory.bytes ≡ length m.bytes → p.rx ≡ new_queue n (pages_start m end n)
    → p.tx ≡ new_queue n (pages_behind (pages_start m end n) (4096 * n)) → p.event ≡ new_queue n (pages_behind (pages_start m end n) (2
    * (4096 * n)))
    → p.cid ≡ 3 → AreInOrder p
order_new m end n p from size base bytes rx tx event cid = record {
  rx_size = ap (λ (q : DriverQueueState). q.n) rx ∙ sym size;
  tx_size = ap (λ (q : DriverQueueState). q.n) tx ∙ sym size;
  event_size = ap (λ (q : DriverQueueState). q.n) event ∙ sym size;
  rx_pages = pages_fit m p.device.memory end n 0 p.rx (rx ∙ ap (new_queue n) (sym (behind_none (pages_start m end n)))) from (omega
      arith) base bytes;
  tx_pages = pages_fit m p.device.memory end n (4096 * n) p.tx tx from (omega arith) base bytes;
  event_pages = pages_fit m p.device.memory end n (2 * (4096 * n)) p.event event from (omega arith) base bytes;
  low = omega (arith, cid);
  high = omega (arith, cid);
}

-- a queue's size is that of the device
pub sized : (q : DriverQueueState) (k n : ℕ) (o : Option ℕ) → q ≡ new_queue k o → k ≡ n → q ≡ new_queue n o
sized q k n o is same = is ∙ ap (λ j. new_queue j o) same

-- each end wrote its words of a queue
abbrev given_to : Queue → DeviceState → DeviceState
given_to queue d = with_memory d (cleared_avail (areas_at queue d.areas) d.size d.memory)

abbrev used_by : Queue → DeviceState → DeviceState
used_by queue d = with_memory d (cleared_used (areas_at queue d.areas) d.size d.memory)

-- what is made of the parts
pub made : (m : Memory) (base n : ℕ) (indirect : Bool) (areas : QueueAreas) (d0 d1 d2 d3 d4 d5 d6 : DeviceState)
    (rx tx event : DriverQueueState)
    → areas ≡ queue_areas_of base n → d0 ≡ new_device m n areas indirect → d1 ≡ given_to Rx d0 → d2 ≡ given_to Tx d1
    → d3 ≡ given_to Event d2
    → d4 ≡ used_by Rx d3 → d5 ≡ used_by Tx d4 → d6 ≡ used_by Event d5 → let pages = pages_start m (queue_areas_of base n).event.end n in
    rx ≡ new_queue n pages → tx ≡ new_queue n (pages_behind pages (4096 * n)) → event ≡ new_queue n (pages_behind pages (2 * (4096 * n)))
    → let p : PartsState = record { device = d6; rx = rx; tx = tx; event = event; cid = FIRST_CID } in p ≡ new_parts m base n indirect
made m base n indirect areas d0 d1 d2 d3 d4 d5 d6 rx tx event is is0 is1 is2 is3 is4 is5 is6 is_rx is_tx is_event =
    let of : DeviceState → DriverQueueState → DriverQueueState → DriverQueueState → PartsState =
    λ d a b c. record { device = d; rx = a; tx = b; event = c; cid = FIRST_CID } in
    let device : d6 ≡ new_device (cleared areas n m) n areas indirect =
    is6
    ∙ ap (used_by Event) (is5 ∙ ap (used_by Tx) (is4 ∙ ap (used_by Rx) (is3 ∙ ap (given_to Event) (is2 ∙ ap (given_to Tx)
    (is1 ∙ ap (given_to Rx) is0))))) in
    ap₂ (λ d a. of d a tx event) (device ∙ ap (λ (a : QueueAreas). new_device (cleared a n m) n a indirect) is) is_rx
    ∙ ap₂ (of _ _) is_tx is_event

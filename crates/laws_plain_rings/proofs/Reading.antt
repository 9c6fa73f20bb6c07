-- Bytes of a chain that is held are read, and written.
use Rattle.std.proofs.lemmas.Grind.{common_steps}
use Rattle.std.proofs.Common.{◌≡◌, ℕ, ◌+◌, ◌-◌, ◌*◌, ◌<◌, ◌≤◌, true, List, [], ◌∷◌, length, take, drop, Contains, refl, sym, ap, ap₂, ◌∙◌, subst, arith}
use Rattle.vs_guest_mem.specs.Memory.{Memory, accessed, after_write, bytes_at}
use Rattle.vs_page.specs.Overwriting.{overwritten}
use Rattle.vs_ring_port.specs.{declared.{queue.Queue.{TheVariants.{Rx, Tx, Event}, Queue}, device_ring.Chain.Chain}, Chains.{bytes_in, same_queue, with_bytes}, Contents.Read}
use Rattle.vs_ring_port.specs.{Contents.Write, EndLog.pages_at, Lists.{queue_of, with_queue}}
use Rattle.vs_ring_list.{specs.{Ends.Ends, Sound.IsTied}, proofs.Held.same_queue_refl}
use Rattle.vs_ring_plain.specs.{Device.{DeviceState, answer_to, chains_held, hold_of, pieces_of, turns_at, with_memory}, Accesses.over, Pieces.{reading, spans, writing}}
use Rattle.vs_ring_plain.{specs.declared.piece.Piece.Piece}
use Rattle.laws_plain_rings.specs.{Tie.{AreHeldAs, AreTied, areas_of, heads_of, shown_of, start_of}, Calls.after_device, Parts.{PartsState, driver_at}, Queue.times, Shown.shown}
use Rattle.laws_plain_rings.proofs.{Spots.{PageOf, high, low, Wrote, wrote, wrote_then, quietly_wrote, IsQuietly}, Assemble.{step, parts_form, ends_form}, Held.{Found, found}}
use Rattle.laws_plain_rings.proofs.{Held.held_written, Parts.{read_part, written_part}, QueueSteps.tie_written, Queues.of_each, Quiet.{quiet_step, quietly_accessed}}

-- a part of one piece
write_one : (p : Piece) (place : ℕ) (bytes : List ℕ) (m : Memory) → place + length bytes ≤ p.len
    → over (writing (spans (p ∷ []) place (length bytes)) bytes) m ≡ (tt, after_write (accessed m (length bytes)) (p.addr + place) bytes)
write_one p place bytes m within = grind (arith, common_steps)

module _ (p : PartsState) (w : Ends) (tied : AreTied p w) (c : Chain) (has : Contains (chains_held p.device) c) where
  abbrev d : DeviceState
  d = p.device

  abbrev m : Memory
  m = d.memory

  abbrev n : ℕ
  n = d.size

  pub f : Found (start_of p) (shown_of p) c d.held w.device.held
  f = found (start_of p) (shown_of p) c d.held w.device.held tied.held has

  abbrev P : ℕ
  P = start_of p c.queue + 4096 * f.hold.head

  abbrev piece : Piece
  piece = record { addr = P; len = c.readable + c.writable }

  pub pieces_is : pieces_of (hold_of c d.held) ≡ piece ∷ []
  pieces_is = grind (arith, common_steps)

  pub bytes_there : bytes_at m P (length f.entry.bytes) ≡ f.entry.bytes
  bytes_there = grind (arith, common_steps)

  pub fits_room : c.readable + c.writable ≤ 4096
  fits_room = subst (λ (k : Chain). k.readable + k.writable ≤ 4096) f.chain_is f.lies.room

  pub fits_read : c.readable ≤ length f.entry.bytes
  fits_read = subst (λ (k : Chain). k.readable ≤ length f.entry.bytes) f.chain_is f.lies.readable

  pub below : f.hold.head < n
  below = ((tied.queues c.queue).2.pages f.hold.head (omega (arith, f.counted))).0

  low_P : m.base ≤ P
  low_P = low tied.laid c.queue (PageOf f.hold.head) below P [] (omega arith) (omega arith)

  -- bytes are read
  module _ (place count : ℕ) (within : place + count ≤ c.readable) where
    abbrev accesses : Memory
    accesses = accessed m count

    quietly : IsQuietly m accesses
    quietly = quietly_accessed m count tied.still

    over_is : over (reading (spans (pieces_of (hold_of c d.held)) place count) []) m ≡ (bytes_at accesses (P + place) count, accesses)
    over_is = grind (arith, common_steps)

    value_is : bytes_at accesses (P + place) count ≡ take count (drop place (bytes_in c w.device.held))
    value_is =
        ap₂ (λ (b : ℕ) (xs : List ℕ). take count (drop (P + place - b) xs)) quietly.base quietly.bytes
        ∙ read_part m P place count (length f.entry.bytes) low_P (omega (arith, within, fits_read))
        ∙ ap (λ (xs : List ℕ). take count (drop place xs)) (bytes_there ∙ sym f.bytes_is)

    -- the answer, and both ends after it
    pub record Reads : Type 0 where
      pub answer : (answer_to (Read c place count) d).0 ≡ take count (drop place (bytes_in c w.device.held))
      pub tied_then : AreTied (record p { device = (answer_to (Read c place count) d).1 }) w

    pub reads : Reads
    reads = record {
      answer = ap (λ (x : List ℕ × Memory). x.0) over_is ∙ value_is;
      tied_then = subst (λ (x : Memory). AreTied (record p { device = with_memory d x }) w) (sym (ap (λ (x : List ℕ
          × Memory). x.1) over_is))
          (quiet_step p w tied accesses quietly);
    }

  -- bytes are written
  module _ (place : ℕ) (bytes : List ℕ) (within : place + length bytes ≤ c.writable) (no_gap : place ≤ length (bytes_in c
      w.device.held)) where
    abbrev before : Memory
    before = accessed m (length bytes)

    abbrev after : Memory
    after = after_write before (P + place) bytes

    quiet_before : IsQuietly m before
    quiet_before = quietly_accessed m (length bytes) tied.still

    w0 : Wrote n (areas_of p) (start_of p) c.queue [] m before
    w0 = quietly_wrote tied.laid c.queue [] quiet_before

    write_over : over (writing (spans (pieces_of (hold_of c d.held)) place (length bytes)) bytes) m ≡ (tt, after)
    write_over =
        ap (λ (ps : List Piece). over (writing (spans ps place (length bytes)) bytes) m) pieces_is
        ∙ write_one piece place bytes m (omega (arith, within))

    abbrev written_bytes : List ℕ
    written_bytes = overwritten f.entry.bytes place bytes

    gap : place ≤ length f.entry.bytes
    gap = omega (arith, no_gap, ap length f.bytes_is)

    to : P + place + length bytes ≤ P + 4096
    to = omega (arith, within, fits_room)

    all : Wrote n (areas_of p) (start_of p) c.queue (PageOf f.hold.head ∷ []) m after
    all = wrote_then w0 (wrote w0.laid c.queue (PageOf f.hold.head) below (P + place) bytes (omega arith) to w0.still)

    high_w : P + place + length bytes ≤ before.base + length before.bytes
    high_w = high w0.laid c.queue (PageOf f.hold.head) below (P + place) bytes (omega arith) to

    old_there : f.entry.bytes ≡ bytes_at before P (length f.entry.bytes)
    old_there = grind (arith, common_steps)

    page_is : (shown (areas_of p c.queue) (start_of p c.queue) after).page f.hold.head (length written_bytes) ≡ written_bytes
    page_is =
        written_part before P place bytes f.entry.bytes (omega (arith, low_P, quiet_before.base)) gap old_there
        (omega (arith, tied.laid.high c.queue, below, f.lies.fits, quiet_before.base, ap length quiet_before.bytes)) high_w

    long : length written_bytes ≡ place + length bytes + (length f.entry.bytes - (place + length bytes))
    long = grind (arith, common_steps)

    held_then : AreHeldAs (start_of p) (λ r. shown (areas_of p r) (start_of p r) after) d.held (with_bytes c written_bytes w.device.held)
    held_then =
        held_written (start_of p) (shown_of p) (λ r. shown (areas_of p r) (start_of p r) after) c written_bytes d.held w.device.held
        f.hold tied.held
        f.hold_is (λ id. omega (arith, (tied.queues c.queue).2.once id)) (of_each (λ q. (id : ℕ) → (same_queue q c.queue ≡ true
        → id ≡ f.hold.head → ⊥)
        → 0 < times id (heads_of q d.held) → (k : ℕ) → k ≤ 4096
        → (shown (areas_of p q) (start_of p q) after).page id k ≡ (shown_of p q).page id k) c.queue
        (λ id not_it some k few. all.own.page id k ((tied.queues c.queue).2.pages id (omega (arith, some))).0 few
        ((λ same. not_it (same_queue_refl c.queue) (sym same)), tt))
        (λ q apart id not_it some k few. (all.other q apart).page id k ((tied.queues q).2.pages id (omega (arith, some))).0 few tt))
        page_is (omega (arith, long, f.lies.fits, within, fits_room)) (omega (arith, long, fits_read))

    same_ends : (q : Queue) → ends_form q (pages_at q w.driver.staged) (queue_of q w.lists) w.driver.entries w.device.entries
        (with_bytes c (overwritten (bytes_in c w.device.held) place bytes) w.device.held) w ≡ after_device (Write c place bytes) w
    same_ends queue = search arith

    same_parts : (q : Queue) → parts_form q (driver_at q p) after (turns_at q d.turns) d.held p ≡ record p { device = with_memory d after }
    same_parts queue = search arith

    stepped : AreTied (parts_form c.queue (driver_at c.queue p) after (turns_at c.queue d.turns) d.held p)
        (ends_form c.queue (pages_at c.queue w.driver.staged) (queue_of c.queue w.lists) w.driver.entries w.device.entries
        (with_bytes c written_bytes w.device.held) w)
    stepped =
        let x = tied.queues c.queue in
        step p w tied c.queue (driver_at c.queue p) after (turns_at c.queue d.turns) d.held (pages_at c.queue w.driver.staged)
        (queue_of c.queue w.lists) w.driver.entries w.device.entries (with_bytes c written_bytes w.device.held) refl refl all
        (x.0, x.1, tie_written x.2 tied.laid.nonzero tied.laid.divides _ f.hold.head f.counted all.own) (λ r apart. refl) held_then
        (same_logs c.queue)
      where
        same_logs : (q : Queue) → IsTied (with_queue q (queue_of q w.lists) w.lists) w.driver.entries w.device.entries
        same_logs Rx = tied.logs
        same_logs Tx = tied.logs
        same_logs Event = tied.logs

    pub tied_written : AreTied (record p { device = (answer_to (Write c place bytes) d).1 }) (after_device (Write c place bytes) w)
    tied_written =
        subst (λ (x : Memory). AreTied (record p { device = with_memory d x }) (after_device (Write c place bytes) w))
        (sym (ap (λ (x : Unit {0} × Memory). x.1) write_over))
        (subst (λ (x : PartsState). AreTied x (after_device (Write c place bytes) w)) (same_parts c.queue)
        (subst (λ (x : Ends). AreTied (parts_form c.queue (driver_at c.queue p) after (turns_at c.queue d.turns) d.held p) x)
        (same_ends c.queue)
        (subst (λ (xs : List ℕ). AreTied (parts_form c.queue (driver_at c.queue p) after (turns_at c.queue d.turns) d.held p)
        (ends_form c.queue (pages_at c.queue w.driver.staged) (queue_of c.queue w.lists) w.driver.entries w.device.entries
        (with_bytes c (overwritten xs place bytes) w.device.held) w)) (sym f.bytes_is) stepped)))

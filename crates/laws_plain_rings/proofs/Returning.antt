-- A chain that is held is returned; the pages given are counted; the guest's CID is published.
use Rattle.std.proofs.Common.{◌≡◌, ℕ, ◌+◌, ◌-◌, ◌*◌, ◌%◌, ◌^◌, ◌<◌, ◌≤◌, List, [], ◌∷◌, ◌++◌, length, take, drop, Contains, refl, sym, ap, ◌∙◌, subst, arith, length-take-le}
use Rattle.std.{proofs.lemmas.{List.take-take, Nat.mod_below}, specs.Prelude.min}
use Rattle.byteorder.specs.Endian.{little_bytes, little_number}
use Rattle.vs_guest_mem.specs.Memory.{Memory, after_access, after_write, bytes_at}
use Rattle.vs_header.proofs.RoundTrip.{little_number-little_bytes}
use Rattle.vs_layout.specs.{Entry.{used_elem_bytes, used_elem_of}, declared.entry.UsedElem.UsedElem}
use Rattle.vs_page.specs.{Fair.IsFairLog, Log.Device}
use Rattle.vs_ring_port.specs.{Chains.{bytes_in, held_of, without_held}, Contents.{Given, Return}, EndLog.{entries_returned, pages_at}, Lists.{Lists, queue_of, after_return}}
use Rattle.vs_ring_port.specs.declared.{device_ring.Chain.Chain, queue.Queue.Queue}
use Rattle.vs_ring_list.{specs.Ends.Ends, proofs.Ties.tied-return}
use Rattle.vs_ring_plain.specs.{Device.{DeviceState, HeldChain, answer_to, chains_held, head_of, hold_of, turns_at, without_hold, with_turns}, Chain.ahead}
use Rattle.vs_ring_plain.specs.declared.turns.Turns.{Turns}
use Rattle.laws_plain_rings.proofs.{Spots.{Elem, UsedIdx, Wrote, wrote, wrote_then, read_back, quietly_wrote, quietly_now, quietly_after, IsQuietly}, Held.fewer_heads}
use Rattle.laws_plain_rings.proofs.{Held.{heads_beside, heads_without, held_count, held_without}, Assemble.{step, held_after, parts_form, ends_form, device_form_is}}
use Rattle.laws_plain_rings.proofs.{Encoded.elem_back, QueueReturns.tie_returned, QueueSteps.out_count, Quiet.{quiet_step, seen}, Reading.{below, bytes_there, f}}
use Rattle.laws_plain_rings.specs.{Tie.{AreHeldAs, AreTied, areas_of, shown_of, start_of}, Calls.after_device, Parts.{PartsState, driver_at}, Shown.{Shown, shown}}

module _ (p : PartsState) (w : Ends) (tied : AreTied p w) where
  abbrev d : DeviceState
  d = p.device

  abbrev m : Memory
  m = d.memory

  abbrev n : ℕ
  n = d.size

  -- a chain is returned with its first bytes
  module _ (c : Chain) (has : Contains (chains_held p.device) c) (len : ℕ) (few : len ≤ length (bytes_in c w.device.held))
      (fair : IsFairLog Device (entries_returned c.queue (take len (bytes_in c w.device.held)) w.device.entries)) where
    abbrev q : Queue
    q = c.queue

    abbrev t : Turns
    t = turns_at q d.turns

    abbrev l : Lists
    l = queue_of q w.lists

    abbrev head : ℕ
    head = (f p w tied c has).hold.head

    abbrev place : ℕ
    place = t.used % n

    abbrev e : UsedElem
    e = record { id = head; len = len }

    abbrev U : ℕ
    U = (areas_of p q).used + 4 + 8 * place

    abbrev I : ℕ
    I = (areas_of p q).used + 2

    abbrev index : ℕ
    index = (t.used + 1) % 2 ^ 16

    abbrev m0 : Memory
    m0 = after_access m

    abbrev m1 : Memory
    m1 = after_write m0 U (used_elem_bytes e)

    abbrev m2 : Memory
    m2 = after_access m1

    abbrev m3 : Memory
    m3 = after_write m2 I (little_bytes 2 index)

    abbrev page : List ℕ
    page = take len (bytes_in c w.device.held)

    near : place < n
    near = mod_below t.used n tied.laid.nonzero

    head_below : head < n
    head_below = below p w tied c has

    short : len ≤ 4096
    short = omega (arith, few, ap length (f p w tied c has).bytes_is, (f p w tied c has).lies.fits)

    page_length : length page ≡ len
    page_length = length-take-le len (bytes_in c w.device.held) few

    w0 : Wrote n (areas_of p) (start_of p) q [] m m0
    w0 = quietly_wrote tied.laid q [] (quietly_after m m (quietly_now m tied.still))

    w1 : Wrote n (areas_of p) (start_of p) q (Elem place ∷ []) m0 m1
    w1 = wrote w0.laid q (Elem place) near U (used_elem_bytes e) (omega arith) (omega arith) w0.still

    w2 : Wrote n (areas_of p) (start_of p) q [] m1 m2
    w2 = quietly_wrote w1.laid q [] (quietly_after m1 m1 (quietly_now m1 w1.still))

    w3 : Wrote n (areas_of p) (start_of p) q (UsedIdx ∷ []) m2 m3
    w3 = wrote w2.laid q UsedIdx tt I (little_bytes 2 index) (omega arith) (omega arith) w2.still

    all : Wrote n (areas_of p) (start_of p) q (Elem place ∷ UsedIdx ∷ []) m m3
    all = wrote_then w0 (wrote_then w1 (wrote_then w2 w3))

    abbrev see : Queue → Memory → Shown
    see r x = shown (areas_of p r) (start_of p r) x

    elem_is : (see q m3).elem place ≡ e
    elem_is =
        w3.own.elem place near (tt, tt) ∙ w2.own.elem place near tt
        ∙ ap used_elem_of (read_back w0.laid q (Elem place) near U (used_elem_bytes e) (omega arith) (omega arith))
        ∙ elem_back e (omega (arith, head_below, tied.laid.limit)) (omega (arith, short))

    used_is : (see q m3).used ≡ index
    used_is =
        ap (little_number 2) (read_back w2.laid q UsedIdx tt I (little_bytes 2 index) (omega arith) (omega arith))
        ∙ little_number-little_bytes 2 index (omega arith)

    page_is : (see q m3).page head (length page) ≡ page
    page_is = all.own.page head (length page) head_below (omega (arith, page_length, short)) (tt, (tt, tt)) ∙ front
      where
        front : bytes_at m (start_of p q + 4096 * head) (length page) ≡ page
        front =
            ap (λ (k : ℕ). bytes_at m (start_of p q + 4096 * head) k) page_length
            ∙ sym (take-take len (length (f p w tied c has).entry.bytes) (drop (start_of p q + 4096 * head - m.base) m.bytes)
            (omega (arith, few, ap length (f p w tied c has).bytes_is)))
            ∙ ap (take len) (bytes_there p w tied c has ∙ sym (f p w tied c has).bytes_is)

    abbrev then_turns : Turns
    then_turns = record t { used = (t.used + 1) % 2 ^ 16 }

    abbrev then_held : List HeldChain
    then_held = without_hold c d.held

    abbrev then_lists : Lists
    then_lists = record l { back = l.back ++ page ∷ [] }

    held_then : AreHeldAs (start_of p) (λ r. see r m3) then_held (without_held c w.device.held)
    held_then = held_without (start_of p) (λ r. see r m3) c d.held w.device.held (held_after p w tied q _ m3 all (λ j some. (tt, (tt, tt))))

    same_head : head_of (hold_of c d.held) ≡ head
    same_head = ap head_of (f p w tied c has).hold_is

    new_is : record p { device = (answer_to (Return c len) d).1 } ≡ parts_form q (driver_at q p) m3 then_turns then_held p
    new_is =
        ap (λ (h : ℕ). let x : PartsState = record p {
          device = record d {
            memory = after_write (after_access (after_write m0 U (used_elem_bytes record { id = h; len = len }))) I (little_bytes 2 index);
            turns = with_turns q then_turns d.turns;
            held = then_held;
          };
        } in x) same_head
        ∙ device_form_is q m3 then_turns then_held p

    ends_is : (r : Queue) → let l = queue_of r w.lists in
        ends_form r (pages_at r w.driver.staged) (record l { back = l.back ++ page ∷ [] }) w.driver.entries
        (entries_returned r page w.device.entries) (without_held c w.device.held) w
        ≡ record w {
          lists = after_return r page w.lists;
          device = record w.device { entries = entries_returned r page w.device.entries; held = without_held c w.device.held };
        }
    ends_is queue = search arith

    pub tied_returned : AreTied (record p { device = (answer_to (Return c len) d).1 }) (after_device (Return c len) w)
    tied_returned =
        let x = tied.queues q in
        let f = f p w tied c has in
        subst (λ (x : PartsState). AreTied x (after_device (Return c len) w)) (sym new_is)
        (subst (λ (x : Ends). AreTied (parts_form q (driver_at q p) m3 then_turns then_held p) x) (ends_is q)
        (step p w tied q (driver_at q p) m3 then_turns then_held (pages_at q w.driver.staged) then_lists w.driver.entries
        (entries_returned q page w.device.entries) (without_held c w.device.held) refl refl all (
          x.0,
          x.1 ++ head ∷ [],
          tie_returned tied.laid.nonzero tied.laid.divides page x.2 (heads_without c d.held f.hold f.hold_is)
              (fewer_heads c d.held f.hold f.hold_is) (see q m3) all.own
              (elem_is ∙ ap (λ (k : ℕ). let y : UsedElem = record { id = head; len = k } in y) (sym page_length)) used_is page_is
              (omega (arith, page_length, short)),
        )
        (λ r apart. heads_beside c d.held r apart) held_then
        (tied-return w.lists w.driver.entries w.device.entries tied.logs q page fair)))

  -- the pages given and not returned are counted
  module _ (queue : Queue) where
    abbrev count : ℕ
    count = length (queue_of queue w.lists).given + held_of queue w.device.held

    pub record Counts : Type 0 where
      pub answer : (answer_to (Given queue) d).0 ≡ count
      pub tied_then : AreTied (record p { device = (answer_to (Given queue) d).1 }) w

    pub counts : Counts
    counts =
        let x = tied.queues queue in
        let t = turns_at queue d.turns in
        let q0 : IsQuietly m (after_access m) = quietly_after m m (quietly_now m tied.still) in
        let held = held_count (start_of p) (shown_of p) queue d.held w.device.held tied.held in
        let out = out_count x.2 in
        let seen_avail = ap (λ (s : Shown). s.avail) (seen p w tied (after_access m) q0 queue) in
        record {
          answer = ap (λ (i : ℕ). min (ahead i t.used) n) seen_avail
              ∙ omega (arith, x.2.avail, x.2.published, x.2.taken, x.2.returned, held, out, x.2.all, tied.laid.limit);
          tied_then = quiet_step p w tied (after_access m) q0;
        }

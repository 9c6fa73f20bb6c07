-- The next chain is taken, or none.
use Rattle.std.proofs.Common.{◌≡◌, ℕ, ◌+◌, ◌*◌, ◌%◌, ◌^◌, ◌<◌, ◌≤◌, Bool, true, false, cond, ◌||◌, List, [], ◌∷◌, length, refl, sym, ap, Some, ap₂, ◌∙◌, subst, arith}
use Rattle.std.{proofs.lemmas.{Bool.Decides.nat_tests, Grind.common_steps}, specs.Prelude.{nat_le, nat_lt}}
use Rattle.vs_guest_mem.specs.Memory.{Memory, after_access, is_within}
use Rattle.vs_layout.specs.declared.entry.Desc.{Desc}
use Rattle.vs_ring_port.specs.{EndLog.{entries_taken, pages_at}, Lists.{Lists, chain_with, next_at, next_given, queue_of, to_read}, declared.queue.Queue.TheVariants.Rx}
use Rattle.vs_ring_port.specs.{declared.{queue.Queue.{TheVariants.{Tx, Event}, Queue}, device_ring.{Chain.Chain, Next.Next}}, Chains.{Held, same_queue}, Contents.Take}
use Rattle.vs_ring_port.specs.{DeviceCalls.IsTakenWhole, DriverCalls.HoldsPacket}
use Rattle.vs_ring_list.{specs.Ends.Ends, proofs.Ties.tied-take}
use Rattle.vs_ring_plain.specs.Device.{DeviceState, HeldChain, answer_found, answer_taken, answer_to, chain_at, is_busy, ring_at, turns_at, with_memory, with_turns}
use Rattle.vs_ring_plain.specs.{Still.IsGiven, declared.{piece.Piece.Piece, turns.Turns.Turns}, Chain.{Taken, ahead, has, piece_of, too_small, total_len, wrong_way}}
use Rattle.vs_ring_plain.proofs.Still.{none_still, taken_still}
use Rattle.vs_plain_driver.specs.Queue.{desc_for}
use Rattle.laws_plain_rings.proofs.{Assemble.{step, held_after, parts_form, ends_form, device_form_is}, QueueReturns.{given_row, id_held, tie_taken}, QueueSteps.out_count}
use Rattle.laws_plain_rings.proofs.{QueueSteps.tie_same, Queues.turned, Held.{all_whole, count_heads, heads_here}, Quiet.{quiet_step, seen}, Spots.{Wrote, quietly_wrote}}
use Rattle.laws_plain_rings.{proofs.Spots.{quietly_now, quietly_after, IsQuietly}, specs.{Calls.after_device, Parts.{PartsState, driver_at}, Queue.{IsOut, IsQueueTied}}}
use Rattle.laws_plain_rings.specs.{Shown.{Shown, shown}, Tie.{AreTied, IsHeldAs, areas_of, heads_of, shown_of, start_of}}
use Rattle.vs_ring_port.specs.declared.device_ring.Next.TheVariants as next

pub chosen : {A : Type 0} (b : Bool) (x y : A) → b ≡ false → cond b x y ≡ y
chosen b x y off = rw off refl

-- the descriptor of a page breaks no rule
rules : (q : Queue) (id at len : ℕ) → (has (desc_for q at len) 4 ≡ false) × (has (desc_for q at len) 1 ≡ false)
    × ((wrong_way q id (desc_for q at len)).0 ≡ false)
rules q id at len = search arith

long : (q : Queue) (at : ℕ) (page : List ℕ) → (q ≡ Tx → 44 ≤ length page) → (too_small q (total_len (piece_of (desc_for q at (length
    page)) ∷ []))).0 ≡ false
long q at page header = grind (arith, common_steps)

inside : (q : Queue) (base size at len : ℕ) → base ≤ at → at + 4096 ≤ base + size → len ≤ 4096
    → let d = desc_for q at len in is_within base size d.addr d.len ≡ true
inside q base size at len from to few = grind (arith, nat_tests, common_steps)

-- the chain of a page, and its one piece
chain_is : (q : Queue) (place at : ℕ) (page : List ℕ) → chain_at q place (piece_of (desc_for q at (length page)) ∷ [])
    ≡ chain_with q place page
chain_is q place at page = grind (arith, common_steps)

piece_is : (q : Queue) (place at : ℕ) (page : List ℕ) → let c = chain_at q place (piece_of (desc_for q at (length page)) ∷ []) in
    piece_of (desc_for q at (length page)) ≡ record { addr = at; len = c.readable + c.writable }
piece_is q place at page = grind (arith, common_steps)

fits_chain : (q : Queue) (place at : ℕ) (page : List ℕ) → length page ≤ 4096
    → let c = chain_at q place (piece_of (desc_for q at (length page)) ∷ []) in
    (c.readable + c.writable ≤ 4096) × (c.readable ≤ length (to_read q page)) × (length (to_read q page) ≤ 4096)
fits_chain q place at page fits = grind (arith, common_steps)

taken_whole : (q : Queue) (place : ℕ) (page : List ℕ) → (q ≡ Tx → HoldsPacket page)
    → IsTakenWhole q (next_at q place (Some page)) (Some page)
taken_whole q place page holds = search (arith, holds)

read_bytes : (q : Queue) (s : Shown) (id : ℕ) (page : List ℕ) → s.page id (length page) ≡ page → s.page id 0 ≡ []
    → s.page id (length (to_read q page)) ≡ to_read q page
read_bytes q s id page bytes none = grind (arith, common_steps)

module _ (p : PartsState) (w : Ends) (tied : AreTied p w) (queue : Queue) where
  abbrev d : DeviceState
  d = p.device

  abbrev n : ℕ
  n = d.size

  abbrev t : Turns
  t = turns_at queue d.turns

  abbrev s : Shown
  s = shown_of p queue

  abbrev l : Lists
  l = queue_of queue w.lists

  -- the answer, and both ends after it
  pub record Takes : Type 0 where
    pub answer : (answer_to (Take queue) d).0 ≡ next_at queue l.place (next_given queue w.lists)
    pub whole : IsTakenWhole queue (next_at queue l.place (next_given queue w.lists)) (next_given queue w.lists)
    pub tied_then : AreTied (record p { device = (answer_to (Take queue) d).1 }) (after_device (Take queue) w)

  busy_by : (b : Bool) → nat_le n (length (heads_of queue d.held)) ≡ b → is_busy queue n d.held ≡ b
  busy_by b test =
      ap₂ (λ x y. nat_le n x || nat_lt 0 y) (count_heads queue d.held) (all_whole (start_of p) (shown_of p) queue d.held w.device.held
      tied.held)
      ∙ or_false (nat_le n (length (heads_of queue d.held))) ∙ test
    where
      or_false : (x : Bool) → (x || nat_lt 0 0) ≡ x
      or_false x = grind (arith, common_steps)

  -- none was given
  module _ (none : l.given ≡ []) where
    none_ends : after_device (Take queue) w ≡ w
    none_ends = grind (arith, common_steps)

    none_next : next_at queue l.place (next_given queue w.lists) ≡ next.None
    none_next = rw none refl

    takes_none : (b : Bool) → (b ≡ false → (ahead s.avail t.taken ≡ 0)) → let r = cond b (next.None, d) (answer_found queue d) in
        (r.0 ≡ next.None) × AreTied (record p { device = r.1 }) w
    takes_none true at = (refl, tied)
    takes_none false at =
        let found = none_still (ring_at queue d) t.taken d.memory tied.still (at refl) in
        subst (λ (x : Taken × Memory). let r = answer_taken queue x.0 (with_memory d x.1) in (r.0
        ≡ next.None) × AreTied (record p { device = r.1 }) w)
        (sym found)
        (refl, quiet_step p w tied (after_access d.memory) (quietly_after d.memory d.memory (quietly_now d.memory tied.still)))

    none_taken : Takes
    none_taken =
        let x = (tied.queues queue).2 in
        let r = takes_none (is_busy queue n d.held) (λ _. omega (arith, x.avail, x.published, x.taken, ap length none)) in record {
          answer = r.0 ∙ sym none_next;
          whole = rw none tt;
          tied_then = subst (λ (v : Ends). AreTied (record p { device = (answer_to (Take queue) d).1 }) v) (sym none_ends) r.1;
        }

  -- the page that was given first
  module _ (page : List ℕ) (pages : List (List ℕ)) (given_is : l.given ≡ page ∷ pages) (id : ℕ) (ids back : List ℕ)
      (tie : IsQueueTied queue n (start_of p queue) s (driver_at queue p) t (heads_of queue d.held) (pages_at queue w.driver.staged) l
      (id ∷ ids) back)
    where
      abbrev P : ℕ
      P = start_of p queue + 4096 * id

      abbrev e : Desc
      e = desc_for queue P (length page)

      first : IsOut queue (start_of p queue) s (t.taken % n) page id
      first = (given_row tied.laid.nonzero tied.laid.divides given_is tie).0

      below : id < n
      below = (id_held tied.laid.nonzero tied.laid.divides given_is tie).0

      counts : length (id ∷ ids) ≡ length l.given + length (pages_at queue w.driver.staged)
      counts = out_count tie

      idle : is_busy queue n d.held ≡ false
      idle = busy_by false (grind (arith, nat_tests, less))
        where
          less : length (heads_of queue d.held) < n
          less = omega (arith, tie.all)

      far : ahead s.avail t.taken ≡ length l.given
      far = omega (arith, tie.avail, tie.published, tie.taken, counts, tie.all, tied.laid.limit)

      is_given : IsGiven (ring_at queue d) t.taken id e d.memory
      is_given = record {
        some = omega (arith, far, ap length given_is);
        few = omega (arith, far, counts, tie.all);
        entry = first.entry;
        within = below;
        desc = first.desc;
        direct = (rules queue id P (length page)).0;
        last = (rules queue id P (length page)).1;
        way = (rules queue id P (length page)).2;
        inside = inside queue d.memory.base (length d.memory.bytes) P (length page) low_P high_P first.fits;
        long = long queue P page first.header;
      }
        where
          low_P : d.memory.base ≤ P
          low_P = let a = tied.laid.each queue in
              omega (arith, tied.laid.low queue, tied.laid.behind queue queue, a.avail, a.used, a.end)

          high_P : P + 4096 ≤ d.memory.base + length d.memory.bytes
          high_P = omega (arith, tied.laid.high queue, below)

      abbrev after : Memory
      after = after_access (after_access (after_access d.memory))

      quietly : IsQuietly d.memory after
      quietly = quietly_after d.memory _ (quietly_after d.memory _ (quietly_after d.memory d.memory (quietly_now d.memory tied.still)))

      unchanged : Wrote n (areas_of p) (start_of p) queue [] d.memory after
      unchanged = quietly_wrote tied.laid queue [] quietly

      abbrev hold : HeldChain
      hold = record { chain = chain_at queue (t.taken % n) (piece_of e ∷ []); head = id; pieces = piece_of e ∷ [] }

      abbrev held_entry : Held
      held_entry = record { chain = chain_with queue l.place page; bytes = to_read queue page }

      abbrev then_turns : Turns
      then_turns = record t { taken = (t.taken + 1) % 2 ^ 16 }

      abbrev then_device : DeviceState
      then_device = record d { memory = after; turns = with_turns queue then_turns d.turns; held = hold ∷ d.held }

      answer_is : answer_to (Take queue) d ≡ (next.Chain hold.chain, then_device)
      answer_is =
          chosen (is_busy queue n d.held) (next.None, d) (answer_found queue d) idle
          ∙ ap (λ (x : Taken × Memory). answer_taken queue x.0 (with_memory d x.1)) (taken_still (ring_at queue d) t.taken id e
          d.memory tied.still is_given)

      hold_chain : hold.chain ≡ chain_with queue l.place page
      hold_chain = chain_is queue (t.taken % n) P page ∙ ap (λ (k : ℕ). chain_with queue k page) (sym tie.place)

      ends_is : (r : Queue) → (queue_of r w.lists).given ≡ page ∷ pages → after_device (Take r) w
          ≡ ends_form r (pages_at r w.driver.staged)
          (record (queue_of r w.lists) { given = pages; place = ((queue_of r w.lists).place + 1) % w.lists.size }) w.driver.entries
          (entries_taken r page w.device.entries)
          (record { chain = chain_with r (queue_of r w.lists).place page; bytes = to_read r page } ∷ w.device.held) w
      ends_is Rx e = rw e refl
      ends_is Tx e = rw e refl
      ends_is Event e = rw e refl

      one_held : IsHeldAs (start_of p) (λ r. shown (areas_of p r) (start_of p r) after) hold held_entry
      one_held = record {
        chain = hold_chain;
        pieces = ap (λ (x : Piece). x ∷ []) (piece_is queue (t.taken % n) P page);
        bytes = ap (λ (x : Shown). x.page id (length (to_read queue page))) (seen p w tied after quietly queue)
            ∙ read_bytes queue s id page first.bytes refl;
        fits = (fits_chain queue (t.taken % n) P page first.fits).2;
        room = (fits_chain queue (t.taken % n) P page first.fits).0;
        readable = (fits_chain queue (t.taken % n) P page first.fits).1;
      }

      heads_beside : (r : Queue) → same_queue queue r ≡ false → heads_of r (hold ∷ d.held) ≡ heads_of r d.held
      heads_beside r other = chosen (same_queue r queue) (id ∷ heads_of r d.held) (heads_of r d.held) (turned queue r other)

      abbrev then_lists : ℕ → Lists
      then_lists k = record l { given = pages; place = (l.place + 1) % k }

      tie_then : IsQueueTied queue n (start_of p queue) (shown (areas_of p queue) (start_of p queue) after) (driver_at queue p) then_turns
          (heads_of queue (hold ∷ d.held)) (pages_at queue w.driver.staged) (then_lists w.lists.size) ids back
      tie_then =
          tie_same (subst (λ (hs : List ℕ). IsQueueTied queue n (start_of p queue) s (driver_at queue p) then_turns hs
          (pages_at queue w.driver.staged) (then_lists w.lists.size) ids back) (sym (heads_here hold d.held))
          (subst (λ (k : ℕ). IsQueueTied queue n (start_of p queue) s (driver_at queue p) then_turns (id ∷ heads_of queue d.held)
          (pages_at queue w.driver.staged) (then_lists k) ids back) (sym tied.size)
          (tie_taken tied.laid.nonzero tied.laid.divides given_is tie))) tied.laid.nonzero tied.laid.divides _ unchanged.own

      some_tied : AreTied (record p { device = (answer_to (Take queue) d).1 }) (after_device (Take queue) w)
      some_tied =
          subst (λ (x : Next × DeviceState). AreTied (record p { device = x.1 }) (after_device (Take queue) w)) (sym answer_is)
          (subst (λ (x : PartsState). AreTied x (after_device (Take queue) w))
          (sym (device_form_is queue after then_turns (hold ∷ d.held) p))
          (subst (λ (x : Ends). AreTied (parts_form queue (driver_at queue p) after then_turns (hold ∷ d.held) p) x)
          (sym (ends_is queue given_is))
          (step p w tied queue (driver_at queue p) after then_turns (hold ∷ d.held) (pages_at queue w.driver.staged)
          (then_lists w.lists.size) w.driver.entries (entries_taken queue page w.device.entries) (held_entry ∷ w.device.held) refl refl
          unchanged (ids, back, tie_then) heads_beside (one_held, held_after p w tied queue [] after unchanged (λ j some. tt))
          (tied-take w.lists w.driver.entries w.device.entries tied.logs queue page pages ((l.place + 1) % w.lists.size) given_is))))

      some_taken : Takes
      some_taken = record {
        answer = ap (λ (x : Next × DeviceState). x.0) answer_is ∙ ap (λ (c : Chain). next.Chain c) hold_chain ∙ sym (rw given_is refl);
        whole = rw given_is (taken_whole queue l.place page first.packet);
        tied_then = some_tied;
      }

  pub takes : Takes
  takes = let x = tied.queues queue in by l.given refl x.0 x.1 x.2
    where
      by : (given : List (List ℕ)) → l.given ≡ given → (out back : List ℕ) → IsQueueTied queue n (start_of p queue) s (driver_at queue p) t
          (heads_of queue d.held) (pages_at queue w.driver.staged) l out back → Takes
      by [] none out back tie = none_taken none
      by (page ∷ pages) given_is [] back tie = absurd (omega (arith, ap length given_is, out_count tie))
      by (page ∷ pages) given_is (id ∷ ids) back tie = some_taken page pages given_is id ids back tie

-- A page is staged: what is written, and both ends after it.
use Rattle.std.proofs.lemmas.Grind.{common_steps}
use Rattle.std.proofs.{Common.{◌≡◌, ℕ, ◌+◌, ◌*◌, ◌%◌, ◌<◌, ◌≤◌, List, [], ◌∷◌, ◌++◌, length, Option, Some, refl, sym, ap, ap₂, ◌∙◌, subst, arith}, lemmas.Nat.mod_below}
use Rattle.std.specs.Prelude.{set, slice_index_or}
use Rattle.byteorder.specs.Endian.{little_bytes, little_number}
use Rattle.vs_guest_mem.specs.Memory.{Memory, after_write}
use Rattle.vs_header.proofs.RoundTrip.{little_number-little_bytes}
use Rattle.vs_layout.specs.{Entry.{desc_bytes, desc_of}, Layout.{avail_entry, desc_entry}, declared.{entry.Desc.Desc, place.Areas.Areas}}
use Rattle.vs_ring_port.specs.{DriverCalls.{HoldsPacket, Stage}, EndLog.pages_at, Lists.{Rings, queue_of, with_queue}, declared.queue.Queue.{Queue, TheVariants.{Tx}}}
use Rattle.vs_ring_list.specs.{Ends.Ends, Sound.IsTied}
use Rattle.vs_ring_plain.specs.Device.{turns_at}
use Rattle.vs_plain_driver.specs.Queue.{DriverQueueState, desc_for, page_at, staged_memory, staged_queue, with_page}
use Rattle.laws_plain_rings.specs.{Calls.after_driver, Shown.shown, Parts.{PartsState, driver_at, staged_parts, with_driver, with_parts_memory}, Tie.{AreTied, IsLaid, areas_of}}
use Rattle.laws_plain_rings.{specs.Tie.start_of, proofs.{Assemble.{driver_form_is, ends_form, step, held_after, parts_form}, QueueSteps.{id_below, not_id}}}
use Rattle.laws_plain_rings.proofs.{QueueSteps.tie_staged, Spots.{Describing, Entry, PageOf, Wrote, wrote, wrote_then, read_back}}

-- the bytes, the descriptor and the entry are written
module _ (n : ℕ) (areas : Queue → Areas) (at : Queue → ℕ) (m : Memory) (laid : IsLaid n areas at m) (still : m.changes ≡ [])
    (queue : Queue) (id place : ℕ) (below : id < n) (near : place < n) (page : List ℕ) (fits : length page ≤ 4096) where
  abbrev P : ℕ
  P = at queue + 4096 * id

  abbrev D : ℕ
  D = (areas queue).desc + 16 * id

  abbrev E : ℕ
  E = (areas queue).avail + 4 + 2 * place

  abbrev d : Desc
  d = desc_for queue P (length page)

  abbrev m1 : Memory
  m1 = after_write m P page

  abbrev m2 : Memory
  m2 = after_write m1 D (desc_bytes d)

  abbrev pub m3 : Memory
  m3 = after_write m2 E (little_bytes 2 id)

  w1 : Wrote n areas at queue (PageOf id ∷ []) m m1
  w1 = wrote laid queue (PageOf id) below P page (omega arith) (omega (arith, fits)) still

  w2 : Wrote n areas at queue (Describing id ∷ []) m1 m2
  w2 = wrote w1.laid queue (Describing id) below D (desc_bytes d) (omega arith) (omega arith) still

  w3 : Wrote n areas at queue (Entry place ∷ []) m2 m3
  w3 = wrote w2.laid queue (Entry place) near E (little_bytes 2 id) (omega arith) (omega arith) still

  pub staged_wrote : Wrote n areas at queue (PageOf id ∷ Describing id ∷ Entry place ∷ []) m m3
  staged_wrote = wrote_then w1 (wrote_then w2 w3)

  pub entry_is : (shown (areas queue) (at queue) m3).entry place ≡ id
  entry_is =
      ap (little_number 2) (read_back w2.laid queue (Entry place) near E (little_bytes 2 id) (omega arith) (omega arith))
      ∙ little_number-little_bytes 2 id (omega (arith, below, laid.limit))

  pub page_is : (shown (areas queue) (at queue) m3).page id (length page) ≡ page
  page_is =
      w3.own.page id (length page) below fits (tt, tt) ∙ w2.own.page id (length page) below fits (tt, tt)
      ∙ read_back laid queue (PageOf id) below P page (omega arith) (omega (arith, fits))

  d_back : (q : Queue) → desc_of (desc_bytes (desc_for q P (length page))) ≡ desc_for q P (length page)
  d_back q = grind (arith, common_steps)

  pub desc_is : (shown (areas queue) (at queue) m3).desc id ≡ desc_for queue P (length page)
  desc_is =
      w3.own.desc id below (tt, tt)
      ∙ ap desc_of (read_back w1.laid queue (Describing id) below D (desc_bytes d) (omega arith) (omega arith)) ∙ d_back queue

-- the call, where a descriptor is free
module _ (p : PartsState) (w : Ends) (tied : AreTied p w) (queue : Queue) (page : List ℕ) (fits : length page ≤ 4096)
    (header : queue ≡ Tx → 44 ≤ length page) (packet : queue ≡ Tx → HoldsPacket page) (id : ℕ) (rest : List ℕ)
    (free : (driver_at queue p).free ≡ id ∷ rest) where
  abbrev q : DriverQueueState
  q = driver_at queue p

  abbrev n : ℕ
  n = p.device.size

  abbrev place : ℕ
  place = (q.published + q.staged) % n

  near : place < n
  near = mod_below (q.published + q.staged) n tied.laid.nonzero

  below : id < n
  below = id_below (tied.queues queue).2 tied.laid.nonzero tied.laid.divides page id rest free

  abbrev then : DriverQueueState
  then = record q { pages = set q.pages id (Some page); free = rest; staged = q.staged + 1 }

  abbrev after : Memory
  after = m3 n (areas_of p) (start_of p) p.device.memory tied.laid tied.still queue id place below near page fits

  queue_is : staged_queue page q ≡ then
  queue_is = grind (arith, common_steps)

  abbrev memory_of : List ℕ → Option ℕ → ℕ → Memory
  memory_of f o k =
      let i = slice_index_or f 0 0 in
      let a = areas_of p queue in
      after_write (after_write (with_page o i page p.device.memory) (desc_entry a i).at (desc_bytes (desc_for queue (page_at o i)
      (length page))))
      (avail_entry a ((q.published + q.staged) % k)).at (little_bytes 2 i)

  memory_is : staged_memory queue page (areas_of p queue) q p.device.memory ≡ after
  memory_is =
      ap (λ (f : List ℕ). memory_of f q.pages_at q.n) free ∙ ap (λ (o : Option ℕ). memory_of (id ∷ rest) o q.n) (tied.there queue)
      ∙ ap (λ (k : ℕ). memory_of (id ∷ rest) (Some (start_of p queue)) k) (tied.sizes queue)

  new_is : staged_parts queue page p ≡ parts_form queue then after (turns_at queue p.device.turns) p.device.held p
  new_is =
      ap₂ (λ (x : DriverQueueState) (m : Memory). with_driver queue x (with_parts_memory m p)) queue_is memory_is
      ∙ driver_form_is queue then after p

  ends_is : (r : Queue) → after_driver (Stage r page) w ≡ ends_form r (pages_at r w.driver.staged ++ page ∷ []) (queue_of r w.lists)
      w.driver.entries w.device.entries w.device.held w
  ends_is queue = search arith

  same_lists : (r : Queue) → with_queue r (queue_of r w.lists) w.lists ≡ w.lists
  same_lists queue = search arith

  pub tied_staged : AreTied (staged_parts queue page p) (after_driver (Stage queue page) w)
  tied_staged =
      let x = tied.queues queue in
      let l = tied.laid in
      let wrote = staged_wrote n (areas_of p) (start_of p) p.device.memory l tied.still queue id place below near page fits in
      subst (λ (x : PartsState). AreTied x (after_driver (Stage queue page) w)) (sym new_is)
      (subst (λ (x : Ends). AreTied (parts_form queue then after (turns_at queue p.device.turns) p.device.held p) x) (sym (ends_is queue))
      (step p w tied queue then after (turns_at queue p.device.turns) p.device.held (pages_at queue w.driver.staged ++ page ∷ [])
      (queue_of queue w.lists) w.driver.entries w.device.entries w.device.held refl refl wrote (
        x.0 ++ id ∷ [],
        x.1,
        tie_staged x.2 l.nonzero l.divides page id rest free (shown (areas_of p queue) (start_of p queue) after) wrote.own
            (entry_is n (areas_of p) (start_of p) p.device.memory l tied.still queue id place below near page fits)
            (desc_is n (areas_of p) (start_of p) p.device.memory l tied.still queue id place below near page fits)
            (page_is n (areas_of p) (start_of p) p.device.memory l tied.still queue id place below near page fits) fits header packet,
      )
      (λ r other. refl)
      (held_after p w tied queue _ after wrote (λ j some.
      (not_id x.2 l.nonzero l.divides page id rest free j (omega (arith, some)), (tt, (tt, tt)))))
      (subst (λ (lists : Rings). IsTied lists w.driver.entries w.device.entries) (sym (same_lists queue)) tied.logs)))

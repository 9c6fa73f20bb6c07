-- A chain that the device returns is the page that the driver gets back.
use Rattle.std.proofs.Common.{inr, ◌≡◌, ◌⊎◌, ℕ, ◌+◌, ◌*◌, ◌%◌, ◌^◌, ◌<◌, ◌≤◌, Bool, false, cond, List, length, Option, None, Some, refl, sym, ap, ◌∙◌, subst, arith}
use Rattle.std.{proofs.lemmas.{Bool.Decides.nat_tests, Nat.mod_below}, specs.Prelude.{◌-◌, ◌==◌, ◌||◌, nat_le, nat_lt, min, slice_index_or}}
use Rattle.byteorder.specs.Endian.{little_bytes, little_number}
use Rattle.vs_guest_mem.specs.Memory.{Memory, after_access, after_write, bytes_at}
use Rattle.vs_header.proofs.RoundTrip.{little_number-little_bytes}
use Rattle.vs_layout.specs.{Layout.{used_elem, used_idx}, Entry.{used_elem_bytes, used_elem_of}, declared.{entry.UsedElem.UsedElem, place.Areas.Areas}}
use Rattle.vs_ring_plain.{specs.{Chain.ahead, Still.IsStill}, proofs.Still.{is_quiet, quiet}}
use Rattle.vs_ring_port.specs.declared.queue.Queue.{Queue}
use Rattle.vs_plain_driver.specs.Queue.{DriverQueueState, flight_in, next_elem, next_used, numbered, page_back, reaped_page, used_ahead}
use Rattle.vs_plain_rings.{specs.Posting.{CanReap, returned, ring_of}, proofs.Posting.one_ahead}
use Rattle.laws_plain_rings.proofs.{Frames.{inner, kept, length_written, written}, Encoded.elem_back, Reaping.or_false}

module _ (q : DriverQueueState) (at head len base accesses : ℕ) (bytes : List ℕ) (areas : Areas) (page : List ℕ)
    (can : CanReap q at head len areas page (quiet base bytes accesses)) where
  abbrev e : UsedElem
  e = record { id = head; len = len }

  abbrev place : ℕ
  place = q.reaped % q.n

  abbrev U : ℕ
  U = (used_elem areas place).at

  abbrev I : ℕ
  I = (used_idx areas).at

  abbrev next_index : ℕ
  next_index = (q.reaped + 1) % 2 ^ 16

  abbrev P : ℕ
  P = at + 4096 * head

  abbrev count : ℕ
  count = min len 4096

  abbrev m : Memory
  m = quiet base bytes accesses

  abbrev mu : Memory
  mu = after_access m

  abbrev m1 : Memory
  m1 = after_write mu U (used_elem_bytes e)

  abbrev m2 : Memory
  m2 = after_access m1

  abbrev m3 : Memory
  m3 = after_write m2 I (little_bytes 2 next_index)

  low : place < q.n
  low = mod_below q.reaped q.n (omega (arith, can.within))

  from_U : base ≤ U
  from_U = omega (arith, can.inside.used_inside.0)

  to_U : U + 8 ≤ base + length bytes
  to_U = omega (arith, can.inside.used_inside.1, low)

  from_I : base ≤ I
  from_I = omega (arith, can.inside.used_inside.0)

  to_I : I + 2 ≤ base + length bytes
  to_I = omega (arith, can.inside.used_inside.1)

  from_P : base ≤ P
  from_P = omega (arith, can.from)

  l1 : length m1.bytes ≡ length bytes
  l1 = length_written mu U (used_elem_bytes e) from_U to_U

  few : count ≤ 4096
  few = omega arith

  page_used : (b k : ℕ) → areas.used ≤ b → b + k ≤ areas.used + (6 + 8 * q.n) → (P + count ≤ b) ⊎ (b + k ≤ P)
  page_used b k from to =
      inner at (4096 * q.n) areas.used (6 + 8 * q.n) P count b k can.beside_used (omega arith) (omega (arith, can.within, few)) from to

  to_I1 : I + 2 ≤ base + length m1.bytes
  to_I1 = omega (arith, to_I, l1)

  index_is : little_number 2 (bytes_at m3 I 2) ≡ next_index
  index_is = ap (little_number 2) (written m2 I (little_bytes 2 next_index) from_I to_I1) ∙ little_number-little_bytes 2 next_index
      (omega arith)

  elem_is : used_elem_of (bytes_at m3 U 8) ≡ e
  elem_is = ap used_elem_of (kept m2 I (little_bytes 2 next_index) U 8 from_I to_I1 from_U (inr (omega arith))
      ∙ written mu U (used_elem_bytes e) from_U to_U)
      ∙ elem_back e (omega (arith, can.within, can.limit)) can.length_fits

  page_is : bytes_at m3 P count ≡ bytes_at m P count
  page_is = kept m2 I (little_bytes 2 next_index) P count from_I to_I1 from_P (page_used I 2 (omega arith) (omega arith))
      ∙ kept mu U (used_elem_bytes e) P count from_U to_U from_P (page_used U 8 (omega arith) (omega (arith, low)))

  choice : (b : Bool) (x y : Option (ℕ × List ℕ)) → b ≡ false → cond b x y ≡ y
  choice b x y off = rw off refl

  no : let more = used_ahead areas q m3 in
      ((more == 0) || nat_lt (flight_in q - q.staged) more || nat_le q.n (next_elem areas q m3).id) ≡ false
  no = or_false _ _ _ (ap (λ x. x == 0) one) (ap (λ x. nat_lt (flight_in q - q.staged) x) one ∙ published)
      (ap (λ (x : UsedElem). nat_le q.n x.id) elem_is ∙ below)
    where
      one : used_ahead areas q m3 ≡ 1
      one = ap (λ x. ahead x q.reaped) index_is ∙ one_ahead q.reaped can.index

      published : nat_lt (flight_in q - q.staged) 1 ≡ false
      published = grind (arith, nat_tests, can.published)

      below : nat_le q.n head ≡ false
      below = grind (arith, nat_tests, can.within)

  used_quiet : next_used areas q m3 ≡ Some (head, page)
  used_quiet =
      choice _ None (numbered (next_elem areas q m3).id (slice_index_or q.pages (next_elem areas q m3).id None)) no
      ∙ ap (λ (x : UsedElem). numbered x.id (slice_index_or q.pages x.id None)) elem_is
      ∙ ap (numbered head) can.in_flight

  reaped_quiet : reaped_page areas q m3 (Some (head, page)) ≡ Some (bytes_at m P count)
  reaped_quiet =
      ap (λ (o : Option ℕ). Some (page_back o head (min (next_elem areas q m3).len 4096) page m3)) can.pages
      ∙ ap (λ (x : UsedElem). Some (bytes_at m3 P (min x.len 4096))) elem_is
      ∙ ap (λ (bs : List ℕ). Some bs) page_is

pub returned_used : (queue : Queue) (q : DriverQueueState) (at head len : ℕ) (areas : Areas) (page : List ℕ) (m : Memory) (indirect : Bool)
    → CanReap q at head len areas page m → IsStill m
    → next_used areas q (returned (ring_of queue q.n areas m indirect) q.reaped head len m) ≡ Some (head, page)
returned_used queue q at head len areas page m indirect can still =
    subst (λ (x : Memory). next_used areas q (returned (ring_of queue q.n areas x indirect) q.reaped head len x) ≡ Some (head, page))
    (sym (is_quiet m still))
    (used_quiet q at head len m.base m.accesses m.bytes areas page
    (subst (λ (x : Memory). CanReap q at head len areas page x) (is_quiet m still) can))

pub returned_page : (queue : Queue) (q : DriverQueueState) (at head len : ℕ) (areas : Areas) (page : List ℕ) (m : Memory) (indirect : Bool)
    → CanReap q at head len areas page m → IsStill m
    → let now = returned (ring_of queue q.n areas m indirect) q.reaped head len m in
    reaped_page areas q now (next_used areas q now) ≡ Some (bytes_at m (at + 4096 * head) (min len 4096))
returned_page queue q at head len areas page m indirect can still =
    subst (λ (x : Memory). let now = returned (ring_of queue q.n areas x indirect) q.reaped head len x in
    reaped_page areas q now (next_used areas q now) ≡ Some (bytes_at x (at + 4096 * head) (min len 4096)))
    (sym (is_quiet m still))
    (ap (reaped_page areas q _) (used_quiet q at head len m.base m.accesses m.bytes areas page here)
    ∙ reaped_quiet q at head len m.base m.accesses m.bytes areas page here)
  where
    here : CanReap q at head len areas page (quiet m.base m.bytes m.accesses)
    here = subst (λ (x : Memory). CanReap q at head len areas page x) (is_quiet m still) can

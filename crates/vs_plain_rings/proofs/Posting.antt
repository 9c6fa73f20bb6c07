-- A page that the driver posts is the chain that the device takes.
use Rattle.std.proofs.Common.{inr, ◌≡◌, ◌⊎◌, ℕ, ◌+◌, ◌*◌, ◌%◌, ◌^◌, ◌<◌, ◌≤◌, Bool, true, false, List, [], ◌∷◌, length, Option, refl, sym, ap, ◌∙◌, subst, arith}
use Rattle.std.proofs.lemmas.{Bool.Decides.nat_tests, Nat.mod_below}
use Rattle.byteorder.specs.Endian.{little_bytes, little_number}
use Rattle.vs_guest_mem.specs.Memory.{Memory, after_access, after_write, bytes_at, is_within}
use Rattle.vs_header.proofs.RoundTrip.{little_number-little_bytes}
use Rattle.vs_layout.specs.{Layout.{avail_entry, avail_idx, desc_entry}, Entry.{desc_bytes, desc_of}, declared.{entry.Desc.Desc, place.Areas.Areas}}
use Rattle.vs_ring_plain.{specs.{Chain.{Chain, ahead, has, piece_of, taking, too_small, total_len, wrong_way}, Accesses.over, Still.{IsGiven, IsStill}}, proofs.Still.taken_still}
use Rattle.vs_ring_port.specs.declared.queue.Queue.{Queue, TheVariants.{Rx, Tx, Event}}
use Rattle.vs_plain_driver.specs.Queue.{desc_for}
use Rattle.vs_plain_rings.specs.Posting.{CanPost, idle_queue, posted, ring_of}
use Rattle.laws_plain_rings.proofs.{Frames.{inner, kept, length_written, written}, Encoded.desc_back}

-- one more than it was, modulo 2^16
pub one_ahead : (p : ℕ) → p < 2 ^ 16 → ahead ((p + 1) % 2 ^ 16) p ≡ 1
one_ahead p small = omega (arith, small)

within_is : (base size addr len : ℕ) → base ≤ addr → addr + len ≤ base + size → is_within base size addr len ≡ true
within_is base size addr len from to = grind (arith, nat_tests, from, to)

-- what the driver writes at a place of the available ring lies in that ring, and a descriptor lies among the descriptors
module _ (queue : Queue) (n at id published : ℕ) (areas : Areas) (page : List ℕ) (m : Memory) (can : CanPost queue n at id published
    areas page m)
  where
    abbrev place : ℕ
    place = published % n

    abbrev P : ℕ
    P = at + 4096 * id

    abbrev D : ℕ
    D = (desc_entry areas id).at

    abbrev E : ℕ
    E = (avail_entry areas place).at

    abbrev I : ℕ
    I = (avail_idx areas).at

    abbrev d : Desc
    d = desc_for queue P (length page)

    abbrev next_index : ℕ
    next_index = (published + 1) % 2 ^ 16

    abbrev m1 : Memory
    m1 = after_write m P page

    abbrev m2 : Memory
    m2 = after_write m1 D (desc_bytes d)

    abbrev m3 : Memory
    m3 = after_write m2 E (little_bytes 2 id)

    abbrev m4 : Memory
    m4 = after_write m3 I (little_bytes 2 next_index)

    low : place < n
    low = mod_below published n (omega (arith, can.within))

    to_P : P + length page ≤ m.base + length m.bytes
    to_P = omega (arith, can.to, can.size, can.within)

    from_P : m.base ≤ P
    from_P = omega (arith, can.from)

    from_D : m.base ≤ D
    from_D = omega (arith, can.inside.desc_inside.0)

    to_D : D + 16 ≤ m.base + length m.bytes
    to_D = omega (arith, can.inside.desc_inside.1, can.within)

    from_E : m.base ≤ E
    from_E = omega (arith, can.inside.avail_inside.0)

    to_E : E + 2 ≤ m.base + length m.bytes
    to_E = omega (arith, can.inside.avail_inside.1, low)

    from_I : m.base ≤ I
    from_I = omega (arith, can.inside.avail_inside.0)

    to_I : I + 2 ≤ m.base + length m.bytes
    to_I = omega (arith, can.inside.avail_inside.1)

    l1 : length m1.bytes ≡ length m.bytes
    l1 = length_written m P page from_P to_P

    l2 : length m2.bytes ≡ length m.bytes
    l2 = length_written m1 D (desc_bytes d) from_D (omega (arith, to_D, l1)) ∙ l1

    l3 : length m3.bytes ≡ length m.bytes
    l3 = length_written m2 E (little_bytes 2 id) from_E (omega (arith, to_E, l2)) ∙ l2

    l4 : length m4.bytes ≡ length m.bytes
    l4 = length_written m3 I (little_bytes 2 next_index) from_I (omega (arith, to_I, l3)) ∙ l3

    desc_avail : (b k : ℕ) → areas.avail ≤ b → b + k ≤ areas.avail + (6 + 2 * n) → (D + 16 ≤ b) ⊎ (b + k ≤ D)
    desc_avail b k from to =
        inner areas.desc (16 * n) areas.avail (6 + 2 * n) D 16 b k can.placed.desc_avail (omega arith) (omega (arith, can.within)) from to

    page_desc : (P + length page ≤ D) ⊎ (D + 16 ≤ P)
    page_desc = inner at (4096 * n) areas.desc (16 * n) P (length page) D 16 can.beside_desc (omega arith) (omega (
      arith,
      can.within,
      can.size,
    ))
        (omega arith) (omega (arith, can.within))

    page_avail : (b k : ℕ) → areas.avail ≤ b → b + k ≤ areas.avail + (6 + 2 * n) → (P + length page ≤ b) ⊎ (b + k ≤ P)
    page_avail b k from to =
        inner at (4096 * n) areas.avail (6 + 2 * n) P (length page) b k can.beside_avail (omega arith) (omega (
          arith,
          can.within,
          can.size,
        )) from to

    index_is : little_number 2 (bytes_at m4 I 2) ≡ next_index
    index_is = ap (little_number 2) (written m3 I (little_bytes 2 next_index) from_I (omega (arith, to_I, l3)))
        ∙ little_number-little_bytes 2 next_index (omega arith)

    entry_is : little_number 2 (bytes_at m4 E 2) ≡ id
    entry_is = ap (little_number 2) (kept m3 I (little_bytes 2 next_index) E 2 from_I (omega (arith, to_I, l3)) from_E (inr (omega arith))
        ∙ written m2 E (little_bytes 2 id) from_E (omega (arith, to_E, l2)))
        ∙ little_number-little_bytes 2 id (omega (arith, can.within, can.limit))

    desc_is : bytes_at m4 D 16 ≡ desc_bytes d
    desc_is = kept m3 I (little_bytes 2 next_index) D 16 from_I (omega (arith, to_I, l3)) from_D (desc_avail I 2 (omega arith) (omega
        arith))
        ∙ kept m2 E (little_bytes 2 id) D 16 from_E (omega (arith, to_E, l2)) from_D (desc_avail E 2 (omega arith) (omega (arith, low)))
        ∙ written m1 D (desc_bytes d) from_D (omega (arith, to_D, l1))

    pub page_is : bytes_at m4 P (length page) ≡ page
    page_is = kept m3 I (little_bytes 2 next_index) P (length page) from_I (omega (arith, to_I, l3)) from_P (page_avail I 2 (omega
        arith) (omega arith))
        ∙ kept m2 E (little_bytes 2 id) P (length page) from_E (omega (arith, to_E, l2)) from_P (page_avail E 2 (omega arith) (omega
        (arith, low)))
        ∙ kept m1 D (desc_bytes d) P (length page) from_D (omega (arith, to_D, l1)) from_P page_desc
        ∙ written m P page from_P to_P

    -- the descriptor breaks no rule
    d_back : (q : Queue) → desc_of (desc_bytes (desc_for q P (length page))) ≡ desc_for q P (length page)
    d_back Rx = desc_back (desc_for Rx P (length page)) (omega (arith, from_P, to_P, can.fits)) (omega arith) (omega arith) (omega arith)
    d_back Tx = desc_back (desc_for Tx P (length page)) (omega (arith, from_P, to_P, can.fits)) (omega (arith, can.size)) (omega arith)
        (omega arith)
    d_back Event = desc_back (desc_for Event P (length page)) (omega (arith, from_P, to_P, can.fits)) (omega arith) (omega arith)
        (omega arith)

    d_inside : (q : Queue) → let x = desc_for q P (length page) in is_within m.base (length m.bytes) x.addr x.len ≡ true
    d_inside Rx = within_is m.base (length m.bytes) P 4096 from_P (omega (arith, can.to, can.within))
    d_inside Tx = within_is m.base (length m.bytes) P (length page) from_P to_P
    d_inside Event = within_is m.base (length m.bytes) P 4096 from_P (omega (arith, can.to, can.within))

    d_long : (q : Queue) → (q ≡ Tx → 44 ≤ length page) → (too_small q (total_len (piece_of (desc_for q P (length page)) ∷ []))).0 ≡ false
    d_long Rx header = refl
    d_long Tx header = grind (arith, nat_tests, header refl)
    d_long Event header = refl

    d_direct : (q : Queue) → has (desc_for q P (length page)) 4 ≡ false
    d_direct Rx = refl
    d_direct Tx = refl
    d_direct Event = refl

    d_last : (q : Queue) → has (desc_for q P (length page)) 1 ≡ false
    d_last Rx = refl
    d_last Tx = refl
    d_last Event = refl

    d_way : (q : Queue) → (wrong_way q id (desc_for q P (length page))).0 ≡ false
    d_way Rx = refl
    d_way Tx = refl
    d_way Event = refl

    given_then : (indirect : Bool) → IsGiven (ring_of queue n areas m indirect) published id d m4
    given_then indirect =
        let one : ahead (little_number 2 (bytes_at m4 I 2)) published ≡ 1 = ap (λ x. ahead x published) index_is
        ∙ one_ahead published can.index in
        record {
          some = omega (arith, one);
          few = omega (arith, one, can.within);
          entry = entry_is;
          within = can.within;
          desc = ap desc_of desc_is ∙ d_back queue;
          direct = d_direct queue;
          last = d_last queue;
          way = d_way queue;
          inside = d_inside queue;
          long = d_long queue can.header;
        }

    posted_is : (pages : List (Option (List ℕ))) (rest : List ℕ) (reaped : ℕ)
        → posted queue page areas (idle_queue n at pages id rest published reaped) m ≡ m4
    posted_is pages rest reaped =
        let same : published + 0 ≡ published = omega arith in
        ap (λ k. after_write (after_write m2 (avail_entry areas (k % n)).at (little_bytes 2 id)) I (little_bytes 2 next_index)) same

pub posted_bytes : (queue : Queue) (n at id published reaped : ℕ) (pages : List (Option (List ℕ))) (rest : List ℕ) (areas : Areas)
    (page : List ℕ) (m : Memory) → CanPost queue n at id published areas page m
    → bytes_at (posted queue page areas (idle_queue n at pages id rest published reaped) m) (at + 4096 * id) (length page) ≡ page
posted_bytes queue n at id published reaped pages rest areas page m can =
    ap (λ (x : Memory). bytes_at x (at + 4096 * id) (length page)) (posted_is queue n at id published areas page m can pages rest reaped)
    ∙ page_is queue n at id published areas page m can

pub posted_taken : (queue : Queue) (n at id published reaped : ℕ) (pages : List (Option (List ℕ))) (rest : List ℕ) (areas : Areas)
    (page : List ℕ) (m : Memory) (indirect : Bool) → CanPost queue n at id published areas page m → IsStill m
    → let now = posted queue page areas (idle_queue n at pages id rest published reaped) m in
    over (taking (ring_of queue n areas m indirect) published) now
    ≡ (Chain id (piece_of (desc_for queue (at + 4096 * id) (length page)) ∷ []), after_access (after_access (after_access now)))
posted_taken queue n at id published reaped pages rest areas page m indirect can still =
    let r = ring_of queue n areas m indirect in
    let d = desc_for queue (at + 4096 * id) (length page) in
    let then = m4 queue n at id published areas page m can in
    subst (λ (x : Memory). over (taking r published) x ≡ (Chain id (piece_of d ∷ []), after_access (after_access (after_access x))))
    (sym (posted_is queue n at id published areas page m can pages rest reaped))
    (taken_still r published id d then still (given_then queue n at id published areas page m can indirect))

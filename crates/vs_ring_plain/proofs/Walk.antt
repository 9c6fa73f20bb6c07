-- Reading the descriptors of a chain one after another.
use Rattle.std.proofs.lemmas.Grind.{common_steps}
use Rattle.std.proofs.Common.{◌≡◌, ℕ, suc, ◌+◌, ◌-◌, ◌*◌, ◌/◌, ◌<◌, ◌≤◌, Bool, true, false, not, List, [], ◌∷◌, ◌++◌, length, Ok, Err, refl, sym, ap, ◌∙◌, arith, length-append}
use Rattle.std.{proofs.lemmas.Bool.Decides.nat_tests, specs.Prelude.{◌≢◌, ◌==◌, bit_and, nat_le, if◌then◌else◌}}
use Rattle.vs_guest_mem.specs.Memory.{Memory, after_access, bytes_at}
use Rattle.vs_layout.specs.{Entry.desc_of, declared.entry.{Desc.Desc, TheConstants.{INDIRECT, NEXT}}}
use Rattle.vs_ring_plain.specs.{Chain.{Ring, Taken, Failed, checked, unless, has, piece, piece_faults, piece_of, table_faults, in_queue, in_table}, Accesses.{Accesses, Done, over}}
use Rattle.vs_ring_plain.specs.{declared.{piece.Piece.Piece, take.PlainQueue.PlainQueue}, Take.ring_in}
use Rattle.vs_ring_port.specs.declared.failure.Failure.{Failure, TheVariants.{ChainLong, IndirectNested, NextRange}}

-- what comes where no test is true
unless-Ok : (tests : List (Bool × Failure)) (next : Accesses Taken) → checked tests ≡ Ok tt → unless tests next ≡ next
unless-Ok [] next ok = refl
unless-Ok ((true, f) ∷ tests) next ok = cc
unless-Ok ((false, f) ∷ tests) next ok = unless-Ok tests next ok

-- what comes where one is
unless-Err : (tests : List (Bool × Failure)) (next : Accesses Taken) (f : Failure) → checked tests ≡ Err f
    → unless tests next ≡ Done (Failed f)
unless-Err [] next f err = cc
unless-Err ((true, g) ∷ tests) next f err = cc
unless-Err ((false, g) ∷ tests) next f err = unless-Err tests next f err

-- a descriptor that is a piece
piece_fault : (r : Ring) (number : ℕ) (d : Desc) (before : List Piece) (ends goes_on : List Piece → Accesses Taken) (m : Memory)
    (f : Failure)
    → checked (piece_faults r number d) ≡ Err f → over (piece r number d before ends goes_on) m ≡ (Failed f, m)
piece_fault r number d before ends goes_on m f err =
    ap (λ (t : Accesses Taken). over t m) (unless-Err (piece_faults r number d) _ f err)

piece_ends : (r : Ring) (number : ℕ) (d : Desc) (before : List Piece) (ends goes_on : List Piece → Accesses Taken) (m : Memory)
    → checked (piece_faults r number d) ≡ Ok tt → has d NEXT ≡ false → over (piece r number d before ends goes_on) m ≡ over (ends
    (before ++ piece_of d ∷ [])) m
piece_ends r number d before ends goes_on m ok last =
    ap (λ (t : Accesses Taken). over t m) (unless-Ok (piece_faults r number d) _ ok) ∙ rw last refl

piece_goes_on : (r : Ring) (number : ℕ) (d : Desc) (before : List Piece) (ends goes_on : List Piece → Accesses Taken) (m : Memory)
    → checked (piece_faults r number d) ≡ Ok tt → has d NEXT ≡ true → over (piece r number d before ends goes_on) m ≡ over (goes_on
    (before ++ piece_of d ∷ [])) m
piece_goes_on r number d before ends goes_on m ok more =
    ap (λ (t : Accesses Taken). over t m) (unless-Ok (piece_faults r number d) _ ok) ∙ rw more refl

-- what a walk does where `left` more descriptors may be read, from a number on, behind these pieces
abbrev pub Walk : Type 0
Walk = ℕ → ℕ → List Piece → (List Piece → Accesses Taken) → Accesses Taken

-- a walk over a table of entries, each at its place
pub record IsWalk (r : Ring) (entries : ℕ) (place : ℕ → ℕ) (walk : Walk) : Type 0 where
  pub long : (number : ℕ) (before : List Piece) (ends : List Piece → Accesses Taken) (m : Memory)
      → over (walk 0 number before ends) m ≡ (Failed (ChainLong r.n), m)
  pub range : (rest number : ℕ) (before : List Piece) (ends : List Piece → Accesses Taken) (m : Memory) → nat_le entries number ≡ true
      → over (walk (suc rest) number before ends) m ≡ (Failed (NextRange number entries), m)
  pub piece : (rest number : ℕ) (before : List Piece) (ends : List Piece → Accesses Taken) (m : Memory) (d : Desc)
      → nat_le entries number ≡ false
      → d ≡ desc_of (bytes_at (after_access m) (place number) 16) → has d INDIRECT ≡ false
      → over (walk (suc rest) number before ends) m ≡ over (piece r number d before ends (λ now. walk rest d.next now ends))
      (after_access m)

-- what is done with a descriptor of a table
abbrev pub after_desc : Ring → ℕ → ℕ → ℕ → ℕ → List Piece → (List Piece → Accesses Taken) → Desc → Accesses Taken
after_desc r at entries rest number before ends d =
    unless ((has d INDIRECT, IndirectNested number) ∷ []) (piece r number d before ends (λ now. in_table r at entries rest d.next now ends))

table_reads : (r : Ring) (at entries rest number : ℕ) (before : List Piece) (ends : List Piece → Accesses Taken) (m : Memory) (d : Desc)
    → nat_le entries number ≡ false → d ≡ desc_of (bytes_at (after_access m) (at + 16 * number) 16)
    → over (in_table r at entries (suc rest) number before ends) m ≡ over (after_desc r at entries rest number before ends d)
    (after_access m)
table_reads r at entries rest number before ends m d near is =
    rw near (ap (λ (e : Desc). over (after_desc r at entries rest number before ends e) (after_access m)) (sym is))

pub table_walk : (r : Ring) (at entries : ℕ) → IsWalk r entries (λ (k : ℕ). at + 16 * k) (in_table r at entries)
table_walk r at entries = grind (arith, common_steps)

-- what is done with a descriptor of the queue
abbrev pub after_queue_desc : Ring → ℕ → ℕ → List Piece → (List Piece → Accesses Taken) → Desc → Accesses Taken
after_queue_desc r rest number before ends d =
    if has d INDIRECT
    then unless (table_faults r number d) (in_table r d.addr (d.len / 16) (suc rest) 0 before ends)
    else piece r number d before ends (λ now. in_queue r rest d.next now ends)

queue_reads : (r : Ring) (rest number : ℕ) (before : List Piece) (ends : List Piece → Accesses Taken) (m : Memory) (d : Desc)
    → nat_le r.n number ≡ false → d ≡ desc_of (bytes_at (after_access m) (r.areas.desc + 16 * number) 16)
    → over (in_queue r (suc rest) number before ends) m ≡ over (after_queue_desc r rest number before ends d) (after_access m)
queue_reads r rest number before ends m d near is =
    rw near (ap (λ (e : Desc). over (after_queue_desc r rest number before ends e) (after_access m)) (sym is))

pub queue_walk : (r : Ring) → IsWalk r r.n (λ (k : ℕ). r.areas.desc + 16 * k) (in_queue r)
queue_walk r = grind (arith, common_steps)

same_ring : (q : PlainQueue) (m first : Memory) → m.base ≡ first.base → length m.bytes ≡ length first.bytes → ring_in q m ≡ ring_in q first
same_ring q m first base size = cc

set : (x : ℕ) → x ≢ 0 → not (x == 0) ≡ true
set x some = grind (arith, nat_tests)

unset : (x : ℕ) → x ≡ 0 → not (x == 0) ≡ false
unset x none = rw none refl

near_test : (entries number : ℕ) → number < entries → nat_le entries number ≡ false
near_test entries number near = grind (arith, nat_tests)

far_test : (entries number : ℕ) → entries ≤ number → nat_le entries number ≡ true
far_test entries number far = grind (arith, nat_tests)

-- a walk that begins with a memory, and what the whole of it comes to
pub record Along : Type 0 where
  pub queue : PlainQueue
  pub first : Memory
  pub entries : ℕ
  pub place : ℕ → ℕ
  pub walk : Walk
  pub is_walk : IsWalk (ring_in queue first) entries place walk
  pub whole : (List Piece → Accesses Taken) → Taken × Memory

abbrev pub along_table : PlainQueue → Memory → ℕ → ℕ → List Piece → Along
along_table q first at entries found = record {
  queue = q;
  first = first;
  entries = entries;
  place = λ (k : ℕ). at + 16 * k;
  walk = in_table (ring_in q first) at entries;
  is_walk = table_walk (ring_in q first) at entries;
  whole = λ (ends : List Piece → Accesses Taken). over (in_table (ring_in q first) at entries (q.n - length found) 0 found ends) first;
}

abbrev pub along_queue : PlainQueue → Memory → ℕ → Along
along_queue q first head = record {
  queue = q;
  first = first;
  entries = q.n;
  place = λ (k : ℕ). q.areas.desc + 16 * k;
  walk = in_queue (ring_in q first);
  is_walk = queue_walk (ring_in q first);
  whole = λ (ends : List Piece → Accesses Taken). over (in_queue (ring_in q first) q.n head [] ends) first;
}

-- how far it has come: what is left comes to what the whole comes to
pub record Comes (a : Along) (m : Memory) (pieces : List Piece) (number : ℕ) : Type 0 where
  pub base : m.base ≡ a.first.base
  pub size : length m.bytes ≡ length a.first.bytes
  pub room : length pieces ≤ a.queue.n
  pub rest : (ends : List Piece → Accesses Taken) → over (a.walk (a.queue.n - length pieces) number pieces ends) m ≡ a.whole ends

-- the descriptor d was read at a number: m was the memory before the read, and now is after it
pub record ReadsEntry (a : Along) (m now : Memory) (pieces : List Piece) (number : ℕ) (d : Desc) : Type 0 where
  pub some : length pieces < a.queue.n
  pub near : number < a.entries
  pub memory : now ≡ after_access m
  pub size : length now.bytes ≡ length m.bytes
  pub is : d ≡ desc_of (bytes_at now (a.place number) 16)

-- how many more may be read behind this descriptor
abbrev pub fewer : Along → List Piece → ℕ
fewer a pieces = a.queue.n - length pieces - 1

-- the first walk, where one more descriptor may be read
one_more : (a : Along) (m : Memory) (pieces : List Piece) (number : ℕ) → Comes a m pieces number → length pieces < a.queue.n
    → (ends : List Piece → Accesses Taken) → a.whole ends ≡ over (a.walk (suc (fewer a pieces)) number pieces ends) m
one_more a m pieces number w some ends = grind (arith, common_steps)

pub exit_range : (a : Along) (m : Memory) (pieces : List Piece) (number : ℕ) → Comes a m pieces number → length pieces < a.queue.n
    → a.entries ≤ number
    → (ends : List Piece → Accesses Taken) → a.whole ends ≡ (Failed (NextRange number a.entries), m)
exit_range a m pieces number w some far ends =
    one_more a m pieces number w some ends ∙ a.is_walk.range (fewer a pieces) number pieces ends m (far_test a.entries number far)

was_read : (a : Along) (m now : Memory) (pieces : List Piece) (number : ℕ) (d : Desc) → ReadsEntry a m now pieces number d
    → d ≡ desc_of (bytes_at (after_access m) (a.place number) 16)
was_read a m now pieces number d e = e.is ∙ ap (λ (x : Memory). desc_of (bytes_at x (a.place number) 16)) e.memory

at_piece : (a : Along) (m now : Memory) (pieces : List Piece) (number : ℕ) (d : Desc) → Comes a m pieces number
    → ReadsEntry a m now pieces number d
    → bit_and d.flags INDIRECT ≡ 0 → (ends : List Piece → Accesses Taken)
    → a.whole ends ≡ over (piece (ring_in a.queue a.first) number d pieces ends (λ found. a.walk (fewer a pieces) d.next found ends)) now
at_piece a m now pieces number d w e plain ends = grind (arith, common_steps)

-- the ring is the one that the walk began with
pub ring_now : (a : Along) (m now : Memory) (pieces : List Piece) (number : ℕ) (d : Desc) → Comes a m pieces number
    → ReadsEntry a m now pieces number d
    → ring_in a.queue now ≡ ring_in a.queue a.first
ring_now a m now pieces number d w e = same_ring a.queue now a.first (ap (λ (x : Memory). x.base) e.memory ∙ w.base) (e.size ∙ w.size)

checked_first : (a : Along) (m now : Memory) (pieces : List Piece) (number : ℕ) (d : Desc) → Comes a m pieces number
    → ReadsEntry a m now pieces number d
    → checked (piece_faults (ring_in a.queue a.first) number d) ≡ checked (piece_faults (ring_in a.queue now) number d)
checked_first a m now pieces number d w e = ap (λ (r : Ring). checked (piece_faults r number d)) (sym
    (ring_now a m now pieces number d w e))

pub exit_fault : (a : Along) (m now : Memory) (pieces : List Piece) (number : ℕ) (d : Desc) (f : Failure) → Comes a m pieces number
    → ReadsEntry a m now pieces number d → bit_and d.flags INDIRECT ≡ 0 → checked (piece_faults (ring_in a.queue now) number d) ≡ Err f
    → (ends : List Piece → Accesses Taken) → a.whole ends ≡ (Failed f, now)
exit_fault a m now pieces number d f w e plain err ends =
    at_piece a m now pieces number d w e plain ends
    ∙ piece_fault (ring_in a.queue a.first) number d pieces ends (λ found. a.walk (fewer a pieces) d.next found ends) now f
    (checked_first a m now pieces number d w e ∙ err)

pub exit_ends : (a : Along) (m now : Memory) (pieces : List Piece) (number : ℕ) (d : Desc) → Comes a m pieces number
    → ReadsEntry a m now pieces number d → bit_and d.flags INDIRECT ≡ 0 → checked (piece_faults (ring_in a.queue now) number d) ≡ Ok tt
    → bit_and d.flags NEXT ≡ 0 → (ends : List Piece → Accesses Taken) → a.whole ends ≡ over (ends (pieces ++ piece_of d ∷ [])) now
exit_ends a m now pieces number d w e plain ok last ends =
    at_piece a m now pieces number d w e plain ends
    ∙ piece_ends (ring_in a.queue a.first) number d pieces ends (λ found. a.walk (fewer a pieces) d.next found ends) now
    (checked_first a m now pieces number d w e ∙ ok) (unset (bit_and d.flags NEXT) last)

pub goes_on : (a : Along) (m now : Memory) (pieces after : List Piece) (number : ℕ) (d : Desc) → Comes a m pieces number
    → ReadsEntry a m now pieces number d → bit_and d.flags INDIRECT ≡ 0 → checked (piece_faults (ring_in a.queue now) number d) ≡ Ok tt
    → bit_and d.flags NEXT ≢ 0 → after ≡ pieces ++ piece_of d ∷ [] → Comes a now after d.next
goes_on a m now pieces after number d w e plain ok more is = record {
  base = ap (λ (x : Memory). x.base) e.memory ∙ w.base;
  size = e.size ∙ w.size;
  room = omega (arith, e.some, longer);
  rest = λ ends. rw (is) (sym (at_piece a m now pieces number d w e plain ends
      ∙ piece_goes_on (ring_in a.queue a.first) number d pieces ends (λ found. a.walk (fewer a pieces) d.next found ends) now
      (checked_first a m now pieces number d w e ∙ ok) (set (bit_and d.flags NEXT) more)
      ∙ ap (λ (k : ℕ). over (a.walk k d.next (pieces ++ piece_of d ∷ []) ends) now) left));
}
  where
    longer_by_one : length (pieces ++ piece_of d ∷ []) ≡ length pieces + 1
    longer_by_one = length-append pieces (piece_of d ∷ [])

    left : fewer a pieces ≡ a.queue.n - length (pieces ++ piece_of d ∷ [])
    left = omega (arith, longer_by_one)

    longer : length after ≡ length pieces + 1
    longer = ap length is ∙ longer_by_one

-- a descriptor of a table that refers to a table
pub exit_nested : (q : PlainQueue) (at entries : ℕ) (first : Memory) (found : List Piece) (m now : Memory) (pieces : List Piece)
    (number : ℕ) (d : Desc)
    → Comes (along_table q first at entries found) m pieces number → ReadsEntry (along_table q first at entries found) m now pieces number d
    → bit_and d.flags INDIRECT ≢ 0 → (ends : List Piece → Accesses Taken)
    → (along_table q first at entries found).whole ends ≡ (Failed (IndirectNested number), now)
exit_nested q at entries first found m now pieces number d w e nested ends =
    let a = along_table q first at entries found in
    one_more a m pieces number w e.some ends
    ∙ table_reads (ring_in q first) at entries (fewer a pieces) number pieces ends m d (near_test entries number e.near)
    (was_read a m now pieces number d e)
    ∙ rw (set (bit_and d.flags INDIRECT) nested) refl
    ∙ ap (λ (x : Memory). (Failed (IndirectNested number), x)) (sym e.memory)

-- a descriptor of the queue that refers to a table
to_table : (q : PlainQueue) (first : Memory) (head : ℕ) (m now : Memory) (pieces : List Piece) (number : ℕ) (d : Desc)
    → Comes (along_queue q first head) m pieces number → ReadsEntry (along_queue q first head) m now pieces number d
    → bit_and d.flags INDIRECT ≢ 0 → (ends : List Piece → Accesses Taken)
    → (along_queue q first head).whole ends
    ≡ over (unless (table_faults (ring_in q first) number d) (in_table (ring_in q first) d.addr (d.len / 16) (suc (fewer
    (along_queue q first head) pieces)) 0 pieces ends)) now
to_table q first head m now pieces number d w e refers ends =
    let a = along_queue q first head in
    one_more a m pieces number w e.some ends
    ∙ queue_reads (ring_in q first) (fewer a pieces) number pieces ends m d (near_test q.n number e.near)
    (was_read a m now pieces number d e)
    ∙ rw (set (bit_and d.flags INDIRECT) refers) refl
    ∙ ap (λ (x : Memory). over (unless (table_faults (ring_in q first) number d) (in_table (ring_in q first) d.addr (d.len / 16)
    (suc (fewer a pieces)) 0 pieces ends)) x) (sym e.memory)

pub exit_table_fault : (q : PlainQueue) (first : Memory) (head : ℕ) (m now : Memory) (pieces : List Piece) (number : ℕ) (d : Desc)
    (f : Failure)
    → Comes (along_queue q first head) m pieces number → ReadsEntry (along_queue q first head) m now pieces number d
    → bit_and d.flags INDIRECT ≢ 0 → checked (table_faults (ring_in q now) number d) ≡ Err f → (ends : List Piece → Accesses Taken)
    → (along_queue q first head).whole ends ≡ (Failed f, now)
exit_table_fault q first head m now pieces number d f w e refers err ends =
    let a = along_queue q first head in
    to_table q first head m now pieces number d w e refers ends
    ∙ ap (λ (t : Accesses Taken). over t now) (unless-Err (table_faults (ring_in q first) number d) _ f
    (ap (λ (r : Ring). checked (table_faults r number d)) (sym (ring_now a m now pieces number d w e)) ∙ err))

pub exit_to_table : (q : PlainQueue) (first : Memory) (head : ℕ) (m now : Memory) (pieces : List Piece) (number : ℕ) (d : Desc)
    → Comes (along_queue q first head) m pieces number → ReadsEntry (along_queue q first head) m now pieces number d
    → bit_and d.flags INDIRECT ≢ 0 → checked (table_faults (ring_in q now) number d) ≡ Ok tt → (ends : List Piece → Accesses Taken)
    → (along_queue q first head).whole ends ≡ (along_table q now d.addr (d.len / 16) pieces).whole ends
exit_to_table q first head m now pieces number d w e refers ok ends =
    let a = along_queue q first head in
    let left : suc (fewer a pieces) ≡ q.n - length pieces = omega (arith, e.some) in
    let same = ring_now a m now pieces number d w e in
    to_table q first head m now pieces number d w e refers ends
    ∙ ap (λ (t : Accesses Taken). over t now) (unless-Ok (table_faults (ring_in q first) number d) _
    (ap (λ (r : Ring). checked (table_faults r number d)) (sym same) ∙ ok))
    ∙ ap (λ (k : ℕ). over (in_table (ring_in q first) d.addr (d.len / 16) k 0 pieces ends) now) left
    ∙ ap (λ (r : Ring). over (in_table r d.addr (d.len / 16) (q.n - length pieces) 0 pieces ends) now) (sym same)

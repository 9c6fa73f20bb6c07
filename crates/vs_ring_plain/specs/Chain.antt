-- Taking a chain from a queue (Virtio 1.2, section 2.7): which pieces of memory are read, in which order, each once, and what comes
-- of the values read: no chain, a chain, or the first rule that the driver broke. What lies in the memory plays no other part.
use Rattle.std.specs.Prelude.{ℕ, zero, suc, ◌+◌, ◌-◌, ◌*◌, ◌/◌, ◌%◌, ◌^◌, ◌==◌, ◌||◌, Bool, not, nat_le, nat_lt, List, [], ◌∷◌, ◌++◌, sum_by, Result, Ok, Err, if◌then◌else◌}
use Rattle.std.specs.Prelude.{bit_and}
use Rattle.byteorder.specs.Endian.{little_number}
use Rattle.vs_guest_mem.specs.Memory.{is_within}
use Rattle.vs_header.specs.declared.TheConstants.{HEADER_LEN}
use Rattle.vs_layout.specs.{Entry.desc_of, Layout.{avail_entry, avail_idx, desc_entry}, declared.entry.{Desc.Desc, TheConstants.{DESC_LEN, INDIRECT, NEXT, WRITE}}}
use Rattle.vs_layout.specs.declared.place.Areas.{Areas}
use Rattle.vs_ring_plain.specs.{declared.piece.Piece.Piece, Accesses.{Accesses, Done, Read}}
use Rattle.vs_ring_port.specs.declared.failure.Failure.{Failure, TheVariants.{AvailJump, HeadRange, Indirect, TxWritable, RxReadable, AddrRange, ChainLong, NextRange, TxShort}}
use Rattle.vs_ring_port.specs.declared.{failure.Failure.TheVariants.{RxSmall, EventSmall, IndirectNested, IndirectNext, IndirectLen}, queue.Queue.{Queue, TheVariants.{Rx, Tx}}}
use Rattle.vs_ring_port.specs.declared.queue.Queue.TheVariants.{Event}

-- A queue of n places, in size bytes of memory from base on. `indirect`: whether indirect descriptors were agreed on.
pub record Ring : Type 0 where
  pub queue : Queue
  pub n : ℕ
  pub areas : Areas
  pub base : ℕ
  pub size : ℕ
  pub indirect : Bool

-- What comes of taking: none is there, or the number of its first descriptor and its pieces, or a failure.
pub data Taken : Type 0 where
  NoChain : Taken
  Chain : ℕ → List Piece → Taken
  Failed : Failure → Taken

-- The failure of the first test that is true.
abbrev pub checked : List (Bool × Failure) → Result (Unit {0}) Failure
checked [] = Ok tt
checked (test ∷ tests) = if test.0 then Err test.1 else checked tests

-- That failure, or else what comes next.
abbrev pub unless : List (Bool × Failure) → Accesses Taken → Accesses Taken
unless [] next = next
unless (test ∷ tests) next = if test.0 then Done (Failed test.1) else unless tests next

abbrev pub has : Desc → ℕ → Bool
has d flag = not (bit_and d.flags flag == 0)

abbrev pub piece_of : Desc → Piece
piece_of d = record { addr = d.addr; len = d.len }

-- A byte of the piece lies outside the memory.
abbrev pub outside : Ring → Desc → Bool × Failure
outside r d = (not (is_within r.base r.size d.addr d.len), AddrRange d.addr d.len)

-- The device reads tx and writes rx and event.
abbrev pub wrong_way : Queue → ℕ → Desc → Bool × Failure
wrong_way Tx number d = (has d WRITE, TxWritable number)
wrong_way Rx number d = (not (has d WRITE), RxReadable number)
wrong_way Event number d = (not (has d WRITE), RxReadable number)

-- What is checked of a descriptor that is a piece of the chain.
abbrev pub piece_faults : Ring → ℕ → Desc → List (Bool × Failure)
piece_faults r number d = wrong_way r.queue number d ∷ outside r d ∷ []

-- What is checked of a descriptor that refers to a table. It is no piece of the chain, and its flag WRITE plays no part.
abbrev pub table_faults : Ring → ℕ → Desc → List (Bool × Failure)
table_faults r number d =
    (not r.indirect, Indirect number) ∷ outside r d ∷ (has d NEXT, IndirectNext number)
    ∷ ((d.len == 0) || not (d.len % DESC_LEN == 0), IndirectLen d.len) ∷ []

-- A packet's header is 44 bytes. An rx chain holds a byte of payload too. An event is 4 bytes.
abbrev pub too_small : Queue → ℕ → Bool × Failure
too_small Tx readable = (nat_lt readable HEADER_LEN, TxShort readable)
too_small Rx writable = (nat_lt writable (HEADER_LEN + 1), RxSmall writable)
too_small Event writable = (nat_lt writable 4, EventSmall writable)

-- The bytes of a chain's pieces.
abbrev pub total_len : List Piece → ℕ
total_len pieces = sum_by (λ (s : Piece). s.len) pieces

-- A descriptor that is a piece of the chain: `before` are the pieces before it, `ends` is what comes where it is the last one, and
-- `goes_on` where it isn't.
abbrev pub piece : Ring → ℕ → Desc → List Piece → (List Piece → Accesses Taken) → (List Piece → Accesses Taken) → Accesses Taken
piece r number d before ends goes_on =
    unless (piece_faults r number d) (
    let now = before ++ piece_of d ∷ [] in
    if has d NEXT then goes_on now else ends now)

-- The descriptors of a table from a number on, of which `left` more may be read.
abbrev pub in_table : Ring → ℕ → ℕ → ℕ → ℕ → List Piece → (List Piece → Accesses Taken) → Accesses Taken
in_table r at entries zero number before ends = Done (Failed (ChainLong r.n))
in_table r at entries (suc left) number before ends =
    unless ((nat_le entries number, NextRange number entries) ∷ []) (
    Read (at + DESC_LEN * number) DESC_LEN (λ bytes.
    let d = desc_of bytes in
    unless ((has d INDIRECT, IndirectNested number) ∷ []) (
    piece r number d before ends (λ now. in_table r at entries left d.next now ends))))

-- The queue's descriptors from a number on, of which `left` more may be read.
abbrev pub in_queue : Ring → ℕ → ℕ → List Piece → (List Piece → Accesses Taken) → Accesses Taken
in_queue r zero number before ends = Done (Failed (ChainLong r.n))
in_queue r (suc left) number before ends =
    unless ((nat_le r.n number, NextRange number r.n) ∷ []) (
    Read (desc_entry r.areas number).at DESC_LEN (λ bytes.
    let d = desc_of bytes in
    if has d INDIRECT
    then unless (table_faults r number d) (in_table r d.addr (d.len / DESC_LEN) (suc left) 0 before ends)
    else piece r number d before ends (λ now. in_queue r left d.next now ends)))

-- How far an index lies above the number of chains taken, both modulo 2^16.
abbrev pub ahead : ℕ → ℕ → ℕ
ahead idx taken = (idx + 2 ^ 16 - taken % 2 ^ 16) % 2 ^ 16

-- Takes the next chain of a queue from which `taken` were taken: the index of the available ring, the entry, the descriptors.
abbrev pub taking : Ring → ℕ → Accesses Taken
taking r taken =
    Read (avail_idx r.areas).at 2 (λ bytes.
    let idx = little_number 2 bytes in
    unless ((nat_lt r.n (ahead idx taken), AvailJump (taken % 2 ^ 16) idx) ∷ []) (
    if ahead idx taken == 0 then Done NoChain else
    Read (avail_entry r.areas (taken % r.n)).at 2 (λ entry.
    let head = little_number 2 entry in
    unless ((nat_le r.n head, HeadRange head r.n) ∷ []) (
    in_queue r r.n head [] (λ pieces.
    unless (too_small r.queue (total_len pieces) ∷ []) (Done (Chain head pieces)))))))

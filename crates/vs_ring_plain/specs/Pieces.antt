-- What a device does with a chain that it took: it reads or writes some of its bytes, and returns it (Virtio 1.2, sections 2.7.4.2 and
-- 2.7.8).
use Rattle.std.specs.Prelude.{ℕ, ◌+◌, ◌-◌, ◌%◌, ◌^◌, ◌==◌, List, [], ◌∷◌, ◌++◌, take, drop, min, if◌then◌else◌}
use Rattle.byteorder.specs.Endian.{little_bytes, little_number}
use Rattle.vs_layout.specs.{Entry.used_elem_bytes, Layout.avail_idx, Layout.used_elem, Layout.used_idx}
use Rattle.vs_ring_plain.specs.{declared.piece.Piece.Piece, Accesses.{Accesses, Done, Read, Write}, Chain.{Ring, ahead}}

-- Where the len bytes from a place in a chain on lie in memory: piece by piece, without empty ones.
abbrev pub spans : List Piece → ℕ → ℕ → List Piece
spans [] place len = []
spans (s ∷ pieces) place len =
    let skipped = min place s.len in
    let used = min (s.len - skipped) len in
    let more = spans pieces (place - skipped) (len - used) in
    if used == 0 then more else record { addr = s.addr + skipped; len = used } ∷ more

-- Reads memory piece by piece; `before` was read before.
abbrev pub reading : List Piece → List ℕ → Accesses (List ℕ)
reading [] before = Done before
reading (s ∷ pieces) before = Read s.addr s.len (λ bytes. reading pieces (before ++ bytes))

-- Writes bytes to memory piece by piece.
abbrev pub writing : List Piece → List ℕ → Accesses (Unit {0})
writing [] bytes = Done tt
writing (s ∷ pieces) bytes = Write s.addr (take s.len bytes) (writing pieces (drop s.len bytes))

-- Returns the chain of a first descriptor, into which the device wrote len bytes, where `returned` were returned before: the used
-- element, then the index of the used ring.
abbrev pub returning : Ring → ℕ → ℕ → ℕ → Accesses (Unit {0})
returning r returned head len =
    Write (used_elem r.areas (returned % r.n)).at (used_elem_bytes record { id = head; len = len }) (
    Write (used_idx r.areas).at (little_bytes 2 ((returned + 1) % 2 ^ 16)) (Done tt))

-- How many chains are given and not returned, by the index of the available ring: no more than the queue has places.
abbrev pub given : Ring → ℕ → Accesses ℕ
given r returned = Read (avail_idx r.areas).at 2 (λ bytes. Done (min (ahead (little_number 2 bytes) returned) r.n))

-- Reading and writing a chain piece by piece.
use Rattle.std.proofs.lemmas.Grind.{common_steps}
use Rattle.std.proofs.Common.{◌≡◌, ℕ, ◌+◌, ◌-◌, ◌≤◌, List, [], ◌∷◌, ◌++◌, length, take, drop, arith}
use Rattle.std.{specs.Prelude.min}
use Rattle.vs_guest_mem.specs.Memory.{Memory, accessed, after_write, bytes_at}
use Rattle.vs_ring_plain.specs.{declared.piece.Piece.Piece, Accesses.over, Chain.total_len, Pieces.{reading, spans, writing}}

-- how much of a piece is skipped, and how much is used
abbrev pub skipped : Piece → ℕ → ℕ
skipped p place = min place p.len

abbrev pub used : Piece → ℕ → ℕ → ℕ
used p place len = min (p.len - skipped p place) len

-- how far a read has come: what is left comes to what the whole comes to
pub record Reads (first : Memory) (pieces : List Piece) (at len : ℕ) (m : Memory) (index place filled : ℕ) (out : List ℕ) : Type 0 where
  pub base : m.base ≡ first.base
  pub size : length m.bytes ≡ length first.bytes
  pub long : length out ≡ len
  pub few : filled ≤ len
  pub left : place + (len - filled) ≤ total_len (drop index pieces)
  pub rest : over (reading (spans (drop index pieces) place (len - filled)) (take filled out)) m
      ≡ over (reading (spans pieces at len) []) first

-- the same of a write
pub record Writes (first : Memory) (pieces : List Piece) (at : ℕ) (bytes : List ℕ) (m : Memory) (index place written : ℕ) : Type 0 where
  pub base : m.base ≡ first.base
  pub size : length m.bytes ≡ length first.bytes
  pub few : written ≤ length bytes
  pub left : place + (length bytes - written) ≤ total_len (drop index pieces)
  pub rest : over (writing (spans (drop index pieces) place (length bytes - written)) (drop written bytes)) m
      ≡ over (writing (spans pieces at (length bytes)) bytes) first

-- the next piece, and what it takes of a read or write of so much from a place on
pub record IsNext (pieces : List Piece) (index place len : ℕ) (p : Piece) (from count : ℕ) : Type 0 where
  pub here : drop index pieces ≡ p ∷ drop (index + 1) pieces
  pub skips : from ≡ skipped p place
  pub uses : count ≡ used p place len

-- what is left lies in the pieces behind it
-- one piece of a read
pub reads_more : (first : Memory) (pieces : List Piece) (at len : ℕ) (m now : Memory) (index place filled : ℕ) (out after : List ℕ)
    (p : Piece) (from count : ℕ)
    → Reads first pieces at len m index place filled out → IsNext pieces index place (len - filled) p from count
    → now ≡ accessed m count → length now.bytes ≡ length m.bytes → length after ≡ length out
    → take (filled + count) after ≡ take filled out ++ bytes_at now (p.addr + from) count
    → Reads first pieces at len now (index + 1) (place - from) (filled + count) after
reads_more first pieces at len m now index place filled out after p from count r n memory size long got = grind (arith, common_steps)

-- a write of one piece
pub unwritten : (m : Memory) (addr : ℕ) → after_write m addr [] ≡ m
unwritten m addr = grind (arith, common_steps)

-- one piece of a write
pub writes_more : (first : Memory) (pieces : List Piece) (at : ℕ) (bytes : List ℕ) (m now : Memory) (index place written : ℕ)
    (p : Piece) (from count : ℕ)
    → Writes first pieces at bytes m index place written → IsNext pieces index place (length bytes - written) p from count
    → now ≡ after_write (accessed m (length (take count (drop written bytes)))) (p.addr + from) (take count (drop written bytes))
    → length now.bytes ≡ length m.bytes
    → Writes first pieces at bytes now (index + 1) (place - from) (written + count)
writes_more first pieces at bytes m now index place written p from count w n memory size = grind (arith, common_steps)

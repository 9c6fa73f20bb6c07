-- What a device does with a guest's memory, as a tree: which piece it reads or writes next, and how it goes on with the bytes read.
use Rattle.std.specs.Prelude.{ℕ, zero, suc, List, [], ◌∷◌, length, Option, None, Some, ⊤}
use Rattle.vs_guest_mem.specs.Memory.{Memory, accessed, after_write, bytes_at}

pub data Accesses (A : Type 0) : Type 0 where
  Done : A → Accesses A
  Read : ℕ → ℕ → (List ℕ → Accesses A) → Accesses A  -- address, length, what comes with the bytes
  Write : ℕ → List ℕ → Accesses A → Accesses A  -- address, bytes, what comes then

-- What comes of it over a memory, whoever changes that between two accesses; and the memory that is left.
abbrev pub over : {A : Type 0} → Accesses A → Memory → A × Memory
over (Done a) m = (a, m)
over (Read addr len next) m = let now = accessed m len in over (next (bytes_at now addr len)) now
over (Write addr bytes next) m = over next (after_write (accessed m (length bytes)) addr bytes)

-- What comes of it where the reads give these values, one after another.
abbrev pub with_values : {A : Type 0} → Accesses A → List (List ℕ) → Option A
with_values (Done a) values = Some a
with_values (Read addr len next) [] = None
with_values (Read addr len next) (bytes ∷ values) = with_values (next bytes) values
with_values (Write addr bytes next) values = with_values next values

-- It makes k accesses at most, whatever it reads, and P holds of the address and length of each piece.
unfoldable pub MakesAtMost : {A : Type 0} → ℕ → (ℕ → ℕ → Type 0) → Accesses A → Type 0
MakesAtMost k P (Done a) = ⊤
MakesAtMost zero P (Read addr len next) = ⊥
MakesAtMost (suc k) P (Read addr len next) = P addr len × ((bytes : List ℕ) → MakesAtMost k P (next bytes))
MakesAtMost zero P (Write addr bytes next) = ⊥
MakesAtMost (suc k) P (Write addr bytes next) = P addr (length bytes) × MakesAtMost k P next

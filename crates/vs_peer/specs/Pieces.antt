-- Reading all of a source and writing bytes to a sink, piece by piece, where they expose what they hold.
use Rattle.std.specs.Prelude.{◌≡◌, ◌<◌, ◌⊎◌, ℕ, List, ◌++◌, length, take, Option, Some, None}
use Rattle.vs_peer.specs.declared.source.TheConstants.{SOURCE_MAX}

-- What was read of a source is all that it had left, or more than a client takes and the beginning of what was left.
abbrev pub IsReading : List ℕ → List ℕ → Type 0
IsReading left bytes = (bytes ≡ left) ⊎ ((SOURCE_MAX < length bytes) × (bytes ≡ take (length bytes) left))

abbrev pub ReadsAll : Option (List ℕ) → List ℕ → Type 0
ReadsAll None bytes = Unit {0}
ReadsAll (Some left) bytes = IsReading left bytes

-- What was read so far, and what a source has left still.
abbrev pub ReadsOn : Option (List ℕ) → Option (List ℕ) → List ℕ → Type 0
ReadsOn None now bytes = now ≡ None
ReadsOn (Some left) None bytes = ⊥
ReadsOn (Some left) (Some rest) bytes = left ≡ bytes ++ rest

-- A sink got all the bytes.
abbrev pub Emits : Option (List ℕ) → Option (List ℕ) → List ℕ → Type 0
Emits None new bytes = new ≡ None
Emits (Some held) new bytes = new ≡ Some (held ++ bytes)

-- A sink got the first of the bytes, and less than all.
abbrev pub EmitsSome : Option (List ℕ) → Option (List ℕ) → List ℕ → Type 0
EmitsSome None new bytes = new ≡ None
EmitsSome (Some held) new bytes = (n : ℕ) × (n < length bytes) × (new ≡ Some (held ++ take n bytes))

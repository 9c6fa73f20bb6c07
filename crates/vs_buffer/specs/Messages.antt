-- What a contract sees of a `MessageFifo`.
use Rattle.std.specs.{Prelude.{ℕ, zero, suc, ◌+◌, Bool, true, false, if◌then◌else◌, List, [], ◌∷◌, ◌++◌, length, take, drop, Option, Some, None}, Option.option_map}
use Rattle.vs_buffer.specs.declared.messages.Mark.{Mark}
use Rattle.vs_buffer.specs.declared.messages.Mark.TheVariants as mark

-- the bytes, the oldest first, and where bytes have marks those, one for each; and how many bytes there may be
pub record Messages : Type 0 where
  pub bytes : List ℕ
  pub marks : List Mark
  pub marked : Bool
  pub capacity : ℕ

-- the marks of so many bytes that come together
abbrev pub marks_of : ℕ → Mark → List Mark
marks_of zero last = []
marks_of (suc zero) last = last ∷ []
marks_of (suc (suc n)) last = mark.None ∷ marks_of (suc n) last

-- the queue with more bytes
abbrev pub with_bytes : List ℕ → Mark → Messages → Messages
with_bytes bytes last f = record f {
  bytes = f.bytes ++ bytes;
  marks = if f.marked then f.marks ++ marks_of (length bytes) last else f.marks;
}

-- the marks with another one at the newest byte
abbrev pub with_last : Mark → List Mark → List Mark
with_last m [] = []
with_last m (n ∷ ms) = take (length ms) (n ∷ ms) ++ m ∷ []

-- how long the oldest message is, and whether a record ends with it
abbrev pub first_message : List Mark → Option (ℕ × Bool)
first_message [] = None
first_message (mark.End ∷ ms) = Some (1, false)
first_message (mark.Record ∷ ms) = Some (1, true)
first_message (mark.None ∷ ms) = option_map (λ m. (m.0 + 1, m.1)) (first_message ms)

-- the queue without the oldest bytes
abbrev pub dropped : ℕ → Messages → Messages
dropped n f = record f { bytes = drop n f.bytes; marks = drop n f.marks }

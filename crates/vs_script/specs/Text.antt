-- Lines of a text, and words of a line.
use Rattle.std.specs.{Prelude.{ℕ, ◌==◌, ◌&&◌, ◌||◌, nat_le, if◌then◌else◌, Bool, true, false, not, List, [], ◌∷◌, filter, slice_index}, List.{onto_first, slice_split}}

-- The lines of a text: LF (10) ends each, and may be missing after the last.
abbrev pub lines_of : List ℕ → List (List ℕ)
lines_of [] = []
lines_of (byte ∷ text) = if byte == 10 then [] ∷ lines_of text else onto_first byte (lines_of text)

-- Whether a list has no element.
abbrev pub is_empty : {X : Type 0} → List X → Bool
is_empty [] = true
is_empty (x ∷ xs) = false

-- The words of a line: what stands between its spaces (32), where that isn't empty.
abbrev pub words_of : List ℕ → List (List ℕ)
words_of line = filter (λ piece. not (is_empty piece)) (slice_split (λ byte. byte == 32) line)

-- Whether a line is skipped: a comment, which begins with `#` (35), or a line without a word.
abbrev pub is_skipped : List ℕ → Bool
is_skipped line = slice_index line 0 == 35 || is_empty (words_of line)

-- Whether a byte is printable ASCII, and no space.
abbrev pub is_graphic : ℕ → Bool
is_graphic byte = nat_le 33 byte && nat_le byte 126

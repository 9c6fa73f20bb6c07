-- The first line of a text and the first word of a line, by the place where each ends.
use Rattle.std.proofs.Common.{◌≡◌, ◌==◌, ◌<◌, ◌≤◌, ◌+◌, ℕ, suc, Bool, false, not, List, [], ◌∷◌, length, take, drop, arith, unwrap_or, sym, subst, refl, inl, inr, one-add, suc-add}
use Rattle.std.{proofs.lemmas.{Bool.{cases_lt, cases_Bool, lt-ltb, le-ltb}, List.Sums.prefix_len-le-length}, specs.{Prelude.{filter, position, ◌≢◌}, List.position_or_len}}
use Rattle.std.specs.List.{slice_split}
use Rattle.vs_script.specs.Text.{is_empty, words_of, lines_of}

-- the place that `position` finds, or the length
pub unwrap_or-position : {X : Type 0} (p : X → Bool) (xs : List X) → unwrap_or (position p xs) (length xs) ≡ position_or_len p xs
unwrap_or-position p xs = elim (cases_lt (position_or_len p xs) (length xs)) [
  | inl below ↦ rw (lt-ltb _ _ below) refl
  | inr past ↦ rw (le-ltb _ _ past) (let most = prefix_len-le-length (λ x. not (p x)) xs in omega arith)
]

-- the place of the first LF, of the first space, and of the first byte that is no space
abbrev pub line_end : List ℕ → ℕ
line_end text = position_or_len (λ b. b == 10) text

abbrev pub word_end : List ℕ → ℕ
word_end line = position_or_len (λ b. b == 32) line

abbrev pub word_start : List ℕ → ℕ
word_start line = position_or_len (λ b. not (b == 32)) line

-- the first line, and the lines behind its LF
pub lines_of-first : (text : List ℕ) → line_end text < length text
    → lines_of text ≡ take (line_end text) text ∷ lines_of (drop (line_end text + 1) text)
lines_of-first [] h = absurd (omega arith)
lines_of-first (x ∷ text) h = elim (cases_Bool (x == 10)) [
  | inl e ↦ rw e refl
  | inr e ↦
      let h' : suc (line_end text) < suc (length text) = rw (e, one-add) at h in
      rw (e, one-add, suc-add) (rw (lines_of-first text (omega arith)) refl)
]

-- a text without LF is one line
pub lines_of-only : (text : List ℕ) → 0 < length text → length text ≤ line_end text → lines_of text ≡ text ∷ []
lines_of-only [] some h = absurd (omega arith)
lines_of-only (x ∷ []) some h = elim (cases_Bool (x == 10)) [
  | inl e ↦ absurd (let h' : 1 ≤ 0 = rw e at h in omega arith)
  | inr e ↦ rw e refl
]
lines_of-only (x ∷ y ∷ text) some h = elim (cases_Bool (x == 10)) [
  | inl e ↦ absurd (let h' : suc (suc (length text)) ≤ 0 = rw e at h in omega arith)
  | inr e ↦
      let h' : suc (suc (length text)) ≤ suc (line_end (y ∷ text)) = rw (e, one-add (line_end (y ∷ text))) at h in
      rw (e, lines_of-only (y ∷ text) (omega arith) (omega arith)) refl
]

-- the pieces behind the first
abbrev pieces_behind : List ℕ → List (List ℕ)
pieces_behind [] = []
pieces_behind (x ∷ line) = slice_split (λ b. b == 32) line

slice_split-first : (line : List ℕ) → slice_split (λ b. b == 32) line ≡ take (word_end line) line ∷ pieces_behind (drop (word_end line) line)
slice_split-first [] = refl
slice_split-first (x ∷ line) = elim (cases_Bool (x == 32)) [
  | inl e ↦ rw e refl
  | inr e ↦ rw (e, one-add) (rw (slice_split-first line) refl)
]

words_of-behind : (line : List ℕ) → filter (λ word. not (is_empty word)) (pieces_behind (drop (word_end line) line)) ≡ words_of (drop (word_end line) line)
words_of-behind [] = refl
words_of-behind (x ∷ line) = elim (cases_Bool (x == 32)) [
  | inl e ↦ rw e (rw e refl)
  | inr e ↦ rw (e, one-add) (words_of-behind line)
]

-- the first word of a line that doesn't begin with a space, and the words behind it
words_of-first : (x : ℕ) (line : List ℕ) → x == 32 ≡ false
    → words_of (x ∷ line) ≡ take (word_end (x ∷ line)) (x ∷ line) ∷ words_of (drop (word_end (x ∷ line)) (x ∷ line))
words_of-first x line e = rw (e, one-add) (rw (slice_split-first line, words_of-behind line) refl)

-- a line without its first spaces
abbrev pub trimmed : List ℕ → List ℕ
trimmed line = drop (word_start line) line

-- the first word of a line, and the words behind it
pub words_of-some : (line : List ℕ) → length (trimmed line) ≢ 0
    → words_of line ≡ take (word_end (trimmed line)) (trimmed line) ∷ words_of (drop (word_end (trimmed line)) (trimmed line))
words_of-some [] h = absurd (h refl)
words_of-some (x ∷ line) h = elim (cases_Bool (x == 32)) [
  | inl e ↦ rw (e, one-add) (words_of-some line (rw (e, one-add) at h))
  | inr e ↦
      let whole : trimmed (x ∷ line) ≡ x ∷ line = rw e refl in
      subst (λ rest. words_of (x ∷ line) ≡ take (word_end rest) rest ∷ words_of (drop (word_end rest) rest)) (sym whole) (words_of-first x line e)
]

-- a line of spaces alone
pub words_of-none : (line : List ℕ) → length (trimmed line) ≡ 0 → words_of line ≡ []
words_of-none [] h = refl
words_of-none (x ∷ line) h = elim (cases_Bool (x == 32)) [
  | inl e ↦ rw e (words_of-none line (rw (e, one-add) at h))
  | inr e ↦ absurd (let h' : suc (length line) ≡ 0 = rw e at h in omega arith)
]

-- What stands behind the first line of some bytes, and what is kept of it where more bytes come.
use Rattle.std.proofs.lemmas.Grind.{common_steps}
use Rattle.std.proofs.Common.{◌≡◌, ℕ, ◌+◌, ◌==◌, ◌||◌, not, nat_lt, Bool, true, false, cond, List, [], ◌∷◌, ◌++◌, length, drop, Some, None, refl, sym, ap, ◌∙◌, arith}
use Rattle.std.specs.{List.prefix_len, Option.option_map_or}
use Rattle.vs_excerpt.specs.{Excerpt.excerpt_of, declared.Excerpt.Excerpt}
use Rattle.vs_outside.specs.{HostBytes.{after_line, has_line}, KeptBytes.{IsKept, behind_handshake}}

-- Byte by byte.
abbrev pub rest_of : List ℕ → List ℕ
rest_of [] = []
rest_of (x ∷ xs) = cond (x == 10) xs (rest_of xs)

abbrev cut : ℕ → List ℕ → List ℕ
cut n xs = option_map_or (λ place. drop (place + 1) xs) (cond (nat_lt n (length xs)) (Some n) None) []

first_cut : (x : ℕ) (xs : List ℕ) → cut 0 (x ∷ xs) ≡ xs
first_cut x xs = grind (arith, common_steps)

next_cut : (x n : ℕ) (xs : List ℕ) → cut (1 + n) (x ∷ xs) ≡ cut n xs
next_cut x n xs = grind (arith, common_steps)

pub after_is_rest : (xs : List ℕ) → after_line xs ≡ rest_of xs
after_is_rest [] = refl
after_is_rest (x ∷ xs) = by (x == 10) (after_is_rest xs)
  where
    by : (b : Bool) → after_line xs ≡ rest_of xs
        → cut (cond (not b) (1 + prefix_len (λ (y : ℕ). not (y == 10)) xs) 0) (x ∷ xs) ≡ cond b xs (rest_of xs)
    by true rest = first_cut x xs
    by false rest = next_cut x (prefix_len (λ (y : ℕ). not (y == 10)) xs) xs ∙ rest

-- More bytes stand behind it, or end it.
rest_more : (xs ys : List ℕ) → rest_of (xs ++ ys) ≡ cond (has_line xs) (rest_of xs ++ ys) (rest_of ys)
rest_more [] ys = refl
rest_more (x ∷ xs) ys = by (x == 10) (rest_more xs ys)
  where
    by : (b : Bool) → rest_of (xs ++ ys) ≡ cond (has_line xs) (rest_of xs ++ ys) (rest_of ys)
        → cond b (xs ++ ys) (rest_of (xs ++ ys)) ≡ cond (b || has_line xs) (cond b xs (rest_of xs) ++ ys) (rest_of ys)
    by true rest = refl
    by false rest = rest

pub rest_before : (xs : List ℕ) → has_line xs ≡ false → rest_of xs ≡ []
rest_before [] is = refl
rest_before (x ∷ xs) is = by (x == 10) is (rest_before xs)
  where
    by : (b : Bool) → (b || has_line xs) ≡ false → (has_line xs ≡ false → rest_of xs ≡ []) → cond b xs (rest_of xs) ≡ []
    by true is rest = absurd cc
    by false is rest = rest is

pub behind_more : (xs ys : List ℕ) → after_line (xs ++ ys) ≡ after_line xs ++ cond (has_line xs) ys (after_line ys)
behind_more xs ys =
    rw (after_is_rest (xs ++ ys), after_is_rest xs, after_is_rest ys) (rest_more xs ys ∙ by (has_line xs) (rest_before xs))
  where
    by : (b : Bool) → (b ≡ false → rest_of xs ≡ []) → cond b (rest_of xs ++ ys) (rest_of ys) ≡ rest_of xs ++ cond b ys (rest_of ys)
    by true before = refl
    by false before = rw (before refl) refl

line_more : (xs ys : List ℕ) → (has_line xs || has_line ys) ≡ has_line (xs ++ ys)
line_more [] ys = refl
line_more (x ∷ xs) ys = by (x == 10) (line_more xs ys)
  where
    by : (b : Bool) → (has_line xs || has_line ys) ≡ has_line (xs ++ ys) → ((b || has_line xs) || has_line ys) ≡ (b || has_line (xs ++ ys))
    by true rest = refl
    by false rest = rest

-- What stands behind the line where more bytes come.
read_more : (by_client : Bool) (given bytes : List ℕ)
    → behind_handshake by_client (given ++ bytes)
    ≡ behind_handshake by_client given ++ cond (cond by_client (has_line given) true) bytes (after_line bytes)
read_more true given bytes = behind_more given bytes
read_more false given bytes = refl

over_more : (by_client : Bool) (given bytes : List ℕ)
    → (cond by_client (has_line given) true || has_line bytes) ≡ cond by_client (has_line (given ++ bytes)) true
over_more true given bytes = line_more given bytes
over_more false given bytes = refl

pub kept_more : (by_client : Bool) (given bytes behind all : List ℕ) (kept next : Excerpt) (over later : Bool)
    → IsKept by_client given kept over
    → behind ≡ cond over bytes (after_line bytes) → all ≡ given ++ bytes → later ≡ (over || has_line bytes)
    → ((front : List ℕ) → kept ≡ excerpt_of front → next ≡ excerpt_of (front ++ behind))
    → IsKept by_client all next later
kept_more by_client given bytes behind all kept next over later is part longer ends then =
    let piece : behind ≡ cond (cond by_client (has_line given) true) bytes (after_line bytes) =
    part ∙ ap (λ (b : Bool). cond b bytes (after_line bytes)) is.line in
    record {
      bytes = then (behind_handshake by_client given) is.bytes
          ∙ ap (λ (more : List ℕ). excerpt_of (behind_handshake by_client given ++ more)) piece
          ∙ ap excerpt_of (sym (read_more by_client given bytes))
          ∙ ap (λ (more : List ℕ). excerpt_of (behind_handshake by_client more)) (sym longer);
      line = ends ∙ ap (λ (b : Bool). b || has_line bytes) is.line ∙ over_more by_client given bytes
          ∙ ap (λ (more : List ℕ). cond by_client (has_line more) true) (sym longer);
    }

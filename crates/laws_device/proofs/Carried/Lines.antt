-- What stands behind the first line of some bytes.
use Rattle.std.proofs.lemmas.Grind.{common_steps}
use Rattle.std.proofs.Common.{◌≡◌, ℕ, zero, suc, codes, decimal, ◌+◌, ◌==◌, ◌||◌, Bool, true, false, cond, List, [], ◌∷◌, ◌++◌, refl, sym, ap, subst, ◌∙◌, arith}
use Rattle.std.{proofs.lemmas.Bool.Decides.nat_tests, specs.{Fmt.{digit_glyph, digits, digits_onto}, Prelude.{◌/◌, ◌%◌}}}
use Rattle.vs_outside.{specs.HostBytes.{after_line, has_line}, proofs.Lines.{after_is_rest, behind_more, rest_of}}
use Rattle.vs_page.specs.Fair.{IsPrefixOf}

-- More bytes stand behind it.
pub after_longer : (xs ys : List ℕ) → has_line xs ≡ true → after_line (xs ++ ys) ≡ after_line xs ++ ys
after_longer xs ys is = behind_more xs ys ∙ ap (λ (b : Bool). after_line xs ++ cond b ys (after_line ys)) is

pub line_longer : (xs ys : List ℕ) → has_line xs ≡ true → has_line (xs ++ ys) ≡ true
line_longer xs ys is = grind (arith, common_steps)

-- A line is whole at its end.
rest_none : (xs : List ℕ) → has_line xs ≡ false → rest_of (xs ++ 10 ∷ []) ≡ []
rest_none [] is = refl
rest_none (x ∷ xs) is = by (x == 10) is (rest_none xs)
  where
    by : (b : Bool) → (b || has_line xs) ≡ false → (has_line xs ≡ false → rest_of (xs ++ 10 ∷ []) ≡ [])
        → cond b (xs ++ 10 ∷ []) (rest_of (xs ++ 10 ∷ [])) ≡ []
    by true is rest = absurd cc
    by false is rest = rest is

pub line_ends : (xs : List ℕ) → has_line xs ≡ false → after_line (xs ++ 10 ∷ []) ≡ []
line_ends xs is = after_is_rest (xs ++ 10 ∷ []) ∙ rest_none xs is

pub line_whole : (xs : List ℕ) → has_line (xs ++ 10 ∷ []) ≡ true
line_whole xs = grind (arith, common_steps)

-- A prefix of a line and more: what stands behind its line is a prefix of that.
rest_front : (line more front : List ℕ) → has_line line ≡ false → IsPrefixOf front ((line ++ 10 ∷ []) ++ more) → IsPrefixOf (rest_of front) more
rest_front line more [] is (tail, same) = (more, refl)
rest_front [] more (x ∷ xs) is (tail, same) =
    let head : x ≡ 10 = cc in
    let behind : more ≡ xs ++ tail = cc in
    let is_end : true ≡ (x == 10) = grind (arith, nat_tests, head) in
    subst (λ (b : Bool). IsPrefixOf (cond b xs (rest_of xs)) more) is_end (tail, behind)
rest_front (y ∷ ys) more (x ∷ xs) is (tail, same) =
    let head : y ≡ x = cc in
    let behind : (ys ++ 10 ∷ []) ++ more ≡ xs ++ tail = cc in
    by (y == 10) (x == 10) (ap (λ (n : ℕ). n == 10) head) is (λ none. rest_front ys more xs none (tail, behind))
  where
    by : (a b : Bool) → a ≡ b → (a || has_line ys) ≡ false → (has_line ys ≡ false → IsPrefixOf (rest_of xs) more)
        → IsPrefixOf (cond b xs (rest_of xs)) more
    by false false same is rest = rest is
    by true b same is rest = absurd cc
    by false true same is rest = absurd cc

pub after_front : (line more front : List ℕ) → has_line line ≡ false → IsPrefixOf front ((line ++ 10 ∷ []) ++ more) → IsPrefixOf (after_line front) more
after_front line more front is all = subst (λ (bytes : List ℕ). IsPrefixOf bytes more) (sym (after_is_rest front)) (rest_front line more front is all)

-- An OK line has no LF but its last byte.
plain_glyph : (d : ℕ) → (digit_glyph false d == 10) ≡ false
plain_glyph d = grind (arith, nat_tests)

plain_digits : (k n : ℕ) (acc : List ℕ) → has_line acc ≡ false → has_line (digits_onto k 10 false n acc) ≡ false
plain_digits zero n acc none = none
plain_digits (suc k) n acc none =
    let one : has_line (digit_glyph false (n % 10) ∷ acc) ≡ false = rw (plain_glyph (n % 10)) none in
    by (n / 10 == 0) one (plain_digits k (n / 10) (digit_glyph false (n % 10) ∷ acc) one)
  where
    by : (b : Bool) → has_line (digit_glyph false (n % 10) ∷ acc) ≡ false
        → has_line (digits_onto k 10 false (n / 10) (digit_glyph false (n % 10) ∷ acc)) ≡ false
        → has_line (cond b (digit_glyph false (n % 10) ∷ acc) (digits_onto k 10 false (n / 10) (digit_glyph false (n % 10) ∷ acc))) ≡ false
    by true one rest = one
    by false one rest = rest

pub ok_front : (port : ℕ) → has_line (codes "OK " ++ decimal port) ≡ false
unfolding digits
ok_front port = plain_digits 64 port [] refl

-- The spaces and the digits that a text begins with, and the rest.
use Rattle.std.proofs.Common.{◌≡◌, ◌==◌, ℕ, zero, suc, Bool, true, false, cond, List, [], ◌∷◌, ◌++◌, length, replicate, Option, Some, None, refl, sym, inl, inr, arith, eqb-true}
use Rattle.std.proofs.{Common.{leb-true, nat_le}, lemmas.{Bool.{and_parts, cases_Bool, false_from_ne_true}, List.{drop_at, take_at, take_rest, Sums.prefix_len-le-length}}}
use Rattle.std.{proofs.Math.Numerals.one-add, specs.{Char.is_ascii_digit, List.{list_all, prefix_len}}}
use Rattle.vs_uds.{specs.Scan.{after_digits, leading_digits, without_leading_spaces}, proofs.Readings.has_lf}

-- a front is no longer than the text
pub ruleset leading = (prefix_len-le-length, take_rest)

-- a value that stands under a test
pub chosen : {A : Type 0} (b : Bool) (x : Option A) (y : A) → cond b x None ≡ Some y → (b ≡ true) × (x ≡ Some y)
chosen true x y h = (refl, h)
chosen false x y h = cc

-- digits, and then none, begin with these digits
digits_at : (ds rest : List ℕ) → list_all is_ascii_digit ds ≡ true → prefix_len is_ascii_digit rest ≡ 0
    → prefix_len is_ascii_digit (ds ++ rest) ≡ length ds
digits_at [] rest each stop = stop
digits_at (d ∷ ds) rest each stop =
    let parts = and_parts (is_ascii_digit d) (list_all is_ascii_digit ds) each in
    rw (parts.0, digits_at ds rest parts.1 stop) (omega arith)

pub leading_digits-append : (ds rest : List ℕ) → list_all is_ascii_digit ds ≡ true → prefix_len is_ascii_digit rest ≡ 0
    → leading_digits (ds ++ rest) ≡ ds
leading_digits-append ds rest each stop = take_at ds rest _ (sym (digits_at ds rest each stop))

pub after_digits-append : (ds rest : List ℕ) → list_all is_ascii_digit ds ≡ true → prefix_len is_ascii_digit rest ≡ 0
    → after_digits (ds ++ rest) ≡ rest
after_digits-append ds rest each stop = drop_at ds rest _ (sym (digits_at ds rest each stop))

-- no digit is an LF
digit_no_lf : (d : ℕ) → is_ascii_digit d ≡ true → (d == 10) ≡ false
digit_no_lf d digit =
    let parts = and_parts (nat_le 48 d) (nat_le d 57) digit in
    false_from_ne_true (d == 10) (λ same. omega (arith, eqb-true d 10 same, leb-true 48 d parts.0))

-- nor a space
pub digit_no_space : (d : ℕ) → is_ascii_digit d ≡ true → (d == 32) ≡ false
digit_no_space d digit =
    let parts = and_parts (nat_le 48 d) (nat_le d 57) digit in
    false_from_ne_true (d == 32) (λ same. omega (arith, eqb-true d 32 same, leb-true 48 d parts.0))

pub has_lf-digits : (ds : List ℕ) → list_all is_ascii_digit ds ≡ true → has_lf ds ≡ false
has_lf-digits [] each = refl
has_lf-digits (d ∷ ds) each =
    let parts = and_parts (is_ascii_digit d) (list_all is_ascii_digit ds) each in
    rw (digit_no_lf d parts.0, has_lf-digits ds parts.1) refl

-- spaces in front make no difference
pub without_leading_spaces-append : (n : ℕ) (text : List ℕ) → without_leading_spaces (replicate n 32 ++ text) ≡ without_leading_spaces text
without_leading_spaces-append zero text = refl
without_leading_spaces-append (suc n) text =
    rw one-add (without_leading_spaces-append n text)

-- a text is its spaces in front and the rest
pub spaces_and_rest : (text : List ℕ) → text ≡ replicate (prefix_len (λ byte. byte == 32) text) 32 ++ without_leading_spaces text
spaces_and_rest [] = refl
spaces_and_rest (b ∷ text) = elim (cases_Bool (b == 32)) [
  | inl space ↦
      let same = eqb-true b 32 space in
      let rest = spaces_and_rest text in
      rw (space, one-add) (cc)
  | inr other ↦ rw other refl
]

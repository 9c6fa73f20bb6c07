-- Numbers as words write them, and what `parse` makes of them.
use Rattle.std.proofs.{Common.{◌≡◌, ◌<◌, ◌^◌, ℕ, true, nat_le, List, [], ◌∷◌, length, None, Result, Ok, Err, refl, arith, inl, inr, leb-true}, lemmas.Bool.{lt-leb, and_right}}
use Rattle.std.{proofs.lemmas.{Bool.{and_parts, cases_lt}, Str.Parse.{IsNumeralModel, numerals_by_value, tells_all_ascii_digits, parse_digits}}, specs.Result.result_ok}
use Rattle.std.specs.{List.list_all, Char.is_ascii_digit, Str.{all_ascii_digits, Parse.{digits_value, ParsesUnsigned}}}
use Rattle.vs_words.specs.Numbers.{is_digits, within}

-- the test of each byte in turn
pub all_ascii_digits-is : (word : List ℕ) → list_all is_ascii_digit word ≡ all_ascii_digits word
all_ascii_digits-is [] = refl
all_ascii_digits-is (b ∷ word) = rw (all_ascii_digits-is word) refl

own : IsNumeralModel (λ ds. all_ascii_digits ds ≡ true) (digits_value 10)
own = numerals_by_value _ tells_all_ascii_digits

-- what the test of digits says
digits_parts : (word : List ℕ) → is_digits word ≡ true → (0 < length word) × (all_ascii_digits word ≡ true)
digits_parts word h =
    let parts = and_parts (nat_le 1 (length word)) (all_ascii_digits word) h in
    (leb-true 1 (length word) parts.0, parts.1)

-- a number that 32 bits don't hold is in no range of theirs
pub within-err : {E : Type 0} (low high : ℕ) (word : List ℕ) (r : Result ℕ E) → is_digits word ≡ true → high < 2 ^ 32
    → ParsesUnsigned 32 10 word r → result_ok r ≡ None → within low high (digits_value 10 word) ≡ None
within-err low high word (Ok x) digits top read failed = cc
within-err low high word (Err e) digits top read failed =
    let parts = digits_parts word digits in
    let reads = parse_digits own 32 word (Err e) read parts.1 in
    elim (cases_lt (digits_value 10 word) (2 ^ 32)) [
      | inl below ↦ absurd (reads (parts.0, below))
      | inr above ↦
          let out : high < digits_value 10 word = omega arith in
          rw (and_right (nat_le low (digits_value 10 word)) (nat_le (digits_value 10 word) high) (lt-leb _ _ out)) refl
    ]

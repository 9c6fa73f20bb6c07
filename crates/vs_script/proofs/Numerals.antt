-- Numbers as words write them, and what `parse` makes of them.
use Rattle.std.proofs.Common.{◌≡◌, ◌<◌, ◌^◌, ◌&&◌, ℕ, true, nat_le, List, [], ◌∷◌, length, Some, None, Result, Ok, Err, refl, arith, inl, inr, subst, leb-true}
use Rattle.std.proofs.lemmas.{Bool.{lt-leb, and_right, and_parts, cases_lt}, Str.{IsUtf8-from_ascii, Parse.{IsNumeralModel, numerals_by_value, tells_all_ascii_digits}}}
use Rattle.std.{proofs.lemmas.{Str.Parse.parse_digits, Fmt.IsAscii-from_digits}, specs.{Prelude.MatchResult, Result.result_ok, List.list_all, Char.is_ascii_digit, Str.IsUtf8}}
use Rattle.std.specs.Str.{all_ascii_digits, Parse.{digits_value, ParsesUnsigned}}
use Rattle.vs_script.specs.{Field.{is_numeral, number_in}, declared.number.TheConstants.MAX_DIGITS}

-- the test of each byte in turn
pub all_ascii_digits-is : (word : List ℕ) → list_all is_ascii_digit word ≡ all_ascii_digits word
all_ascii_digits-is [] = refl
all_ascii_digits-is (b ∷ word) = rw (all_ascii_digits-is word) refl

pub own : IsNumeralModel (λ ds. all_ascii_digits ds ≡ true) (digits_value 10)
own = numerals_by_value _ tells_all_ascii_digits

-- what the test of a numeral says
numeral_parts : (word : List ℕ) → is_numeral word ≡ true → (0 < length word) × (all_ascii_digits word ≡ true)
numeral_parts word h =
    let outer = and_parts (nat_le 1 (length word) && nat_le (length word) MAX_DIGITS) (all_ascii_digits word) h in
    let inner = and_parts (nat_le 1 (length word)) (nat_le (length word) MAX_DIGITS) outer.0 in
    (leb-true 1 (length word) inner.0, outer.1)

-- a numeral is a text
pub IsUtf8-numeral : (word : List ℕ) → is_numeral word ≡ true → IsUtf8 word
IsUtf8-numeral word h = IsUtf8-from_ascii word (IsAscii-from_digits word (own.to word (numeral_parts word h).1))

-- a text is read as one
pub no_err-text : {T E : Type 0} (r : Result T E) (P : T → Type 0) (Q : E → Type 0) (U : Type 0)
    → MatchResult r P (λ e. ¬ U × Q e) → U → result_ok r ≡ None → ⊥
no_err-text (Ok x) P Q U h text e = cc
no_err-text (Err x) P Q U h text e = h.0 text

-- and that text is what was read
pub text_from-some : {T E : Type 0} (r : Result T E) (P : T → Type 0) (Q : E → Type 0) (x : T) → MatchResult r P Q → result_ok r ≡ Some x → P x
text_from-some (Ok y) P Q x h e = let same : y ≡ x = cc in subst P same h
text_from-some (Err y) P Q x h e = cc

-- a number that 64 bits don't hold is in no range of theirs
pub number_in-err : {E : Type 0} (low high : ℕ) (word : List ℕ) (r : Result ℕ E) → is_numeral word ≡ true → high < 2 ^ 64
    → ParsesUnsigned 64 10 word r → result_ok r ≡ None → number_in low high word ≡ None
number_in-err low high word (Ok x) numeral top read failed = cc
number_in-err low high word (Err e) numeral top read failed =
    let parts = numeral_parts word numeral in
    let reads = parse_digits own 64 word (Err e) read parts.1 in
    elim (cases_lt (digits_value 10 word) (2 ^ 64)) [
      | inl below ↦ absurd (reads (parts.0, below))
      | inr above ↦
          let out : high < digits_value 10 word = omega arith in
          rw numeral (rw (and_right (nat_le low (digits_value 10 word)) (nat_le (digits_value 10 word) high) (lt-leb _ _ out)) refl)
    ]

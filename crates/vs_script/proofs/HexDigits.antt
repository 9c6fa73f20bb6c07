-- The bytes that hex digits write are those that the crate `hex` decodes.
use Rattle.std.proofs.Common.{◌≡◌, ◌+◌, ◌*◌, ◌%◌, ◌==◌, ◌∷◌, ℕ, List, [], length, Option, Some, None, Result, Ok, Err, refl, arith, inl, inr, eqb-true, le-leb, ◌≤◌}
use Rattle.std.{proofs.lemmas.Bool.cases_Bool, specs.Result.result_ok}
use Rattle.hex.specs.{Hex.{decode_of, decode_pairs, digit_or_error, hex_digit_value, ◌>>=◌}, declared.error.FromHexError.FromHexError}
use Rattle.vs_script.specs.{Field.{of_both, bytes_of_digits, hex_of}, declared.hex_word.TheConstants.MAX_HEX}

-- one byte and those behind it
pair_then : (a b i : ℕ) (high low : Option ℕ) (rest : Result (List ℕ) FromHexError)
    → result_ok (((digit_or_error a i high) >>= (λ h. (digit_or_error b (i + 1) low) >>= (λ l. Ok (h * 16 + l)))) >>= (λ byte. rest >>= (λ bytes. Ok (byte ∷ bytes))))
    ≡ of_both ◌∷◌ (of_both (λ h l. h * 16 + l) high low) (result_ok rest)
pair_then a b i None low rest = refl
pair_then a b i (Some h) None rest = refl
pair_then a b i (Some h) (Some l) (Ok bytes) = refl
pair_then a b i (Some h) (Some l) (Err e) = refl

result_ok-decode_pairs : (i : ℕ) (digits : List ℕ) → result_ok (decode_pairs i digits) ≡ bytes_of_digits digits
unfolding decode_pairs
result_ok-decode_pairs i [] = refl
result_ok-decode_pairs i (digit ∷ []) = refl
result_ok-decode_pairs i (high ∷ low ∷ digits) =
    rw (← result_ok-decode_pairs (i + 2) digits) (pair_then high low i (hex_digit_value high) (hex_digit_value low) (decode_pairs (i + 2) digits))

of_both-none : {A B C : Type 0} (f : A → B → C) (a : Option A) → of_both f a None ≡ None
of_both-none f None = refl
of_both-none f (Some a) = refl

-- an odd number of digits writes no bytes
bytes_of_digits-odd : (digits : List ℕ) → length digits % 2 ≡ 1 → bytes_of_digits digits ≡ None
bytes_of_digits-odd [] odd = absurd (omega arith)
bytes_of_digits-odd (digit ∷ []) odd = refl
bytes_of_digits-odd (high ∷ low ∷ digits) odd =
    rw (bytes_of_digits-odd digits (omega arith)) (of_both-none ◌∷◌ _)

pub result_ok-decode_of : (digits : List ℕ) → result_ok (decode_of digits) ≡ bytes_of_digits digits
result_ok-decode_of digits = elim (cases_Bool (length digits % 2 == 1)) [
  | inl odd ↦ rw (odd, bytes_of_digits-odd digits (eqb-true _ _ odd)) refl
  | inr even ↦ rw even (result_ok-decode_pairs 0 digits)
]

-- a word of bytes, by what decoding it gives
pub hex_of-ok : (word bytes : List ℕ) → 2 ≤ length word → length word ≤ MAX_HEX → decode_of word ≡ Ok bytes → Some bytes ≡ hex_of word
hex_of-ok word bytes low high read =
    rw (le-leb _ _ low, le-leb _ _ high, ← result_ok-decode_of word, read) refl

pub hex_of-err : (word : List ℕ) (e : FromHexError) → 2 ≤ length word → length word ≤ MAX_HEX → decode_of word ≡ Err e → None ≡ hex_of word
hex_of-err word e low high failed =
    rw (le-leb _ _ low, le-leb _ _ high, ← result_ok-decode_of word, failed) refl

-- What is printed by an excerpt of bytes.
use Rattle.std.proofs.Common.{◌≡◌, ◌≤◌, ◌-◌, ◌++◌, ◌==◌, ℕ, nat_le, Bool, true, false, cond, List, [], ◌∷◌, codes, decimal, length, take, drop, refl, ap, ◌∙◌, arith, append_assoc}
use Rattle.std.proofs.lemmas.{Bool.Decides.nat_tests, List.take_all}
use Rattle.hex.specs.Hex.{encode_lower}
use Rattle.vs_excerpt.{specs.{Excerpt.{back_of, excerpt_of, front_of}, declared.TheConstants.{AT_EACH_END, MAX_IN_FULL}}, proofs.Keeping.{shown_back, shown_front}}
use Rattle.vs_report.specs.Bytes.{counted_text, data_text, excerpt_text, shown_text}

same_some : (b : Bool) (bytes : List ℕ) → nat_le (length bytes) MAX_IN_FULL ≡ b
    → cond b (encode_lower (take (length bytes) (front_of bytes)))
    (encode_lower (take AT_EACH_END (front_of bytes)) ++ codes ".." ++ encode_lower (back_of bytes))
    ≡ cond b (encode_lower bytes) (encode_lower (take AT_EACH_END bytes) ++ codes ".." ++ encode_lower (drop (length bytes - AT_EACH_END) bytes))
same_some true bytes is =
    ap encode_lower (shown_front bytes (length bytes) (length bytes) (omega arith) (grind (arith, nat_tests, is)) ∙ take_all (length bytes) bytes (omega arith))
same_some false bytes is =
    let many : AT_EACH_END ≤ length bytes = grind (arith, nat_tests, is) in
    ap (λ (xs : List ℕ). encode_lower xs ++ codes ".." ++ encode_lower (back_of bytes)) (shown_front bytes AT_EACH_END AT_EACH_END (omega (arith, many)) (omega arith))
    ∙ ap (λ (xs : List ℕ). encode_lower (take AT_EACH_END bytes) ++ codes ".." ++ encode_lower xs) (shown_back bytes many)

same_shown : (bytes : List ℕ) → shown_text (excerpt_of bytes) ≡ data_text bytes
same_shown [] = refl
same_shown (byte ∷ bytes) = some (length (byte ∷ bytes) == 0) (grind (arith, nat_tests))
  where
    some : (b : Bool) → b ≡ false
        → cond b (codes "-") (cond (nat_le (length (byte ∷ bytes)) MAX_IN_FULL) (encode_lower (take (length (byte ∷ bytes)) (front_of (byte ∷ bytes))))
        (encode_lower (take AT_EACH_END (front_of (byte ∷ bytes))) ++ codes ".." ++ encode_lower (back_of (byte ∷ bytes))))
        ≡ data_text (byte ∷ bytes)
    some true is = absurd cc
    some false is = same_some (nat_le (length (byte ∷ bytes)) MAX_IN_FULL) (byte ∷ bytes) refl

pub same_text : (bytes : List ℕ) → excerpt_text (excerpt_of bytes) ≡ counted_text bytes
same_text bytes = ap (λ (xs : List ℕ). decimal (length bytes) ++ codes " " ++ xs) (same_shown bytes)

-- A text behind a number and a space.
pub behind_number : (text old number space more : List ℕ) → text ≡ old ++ number
    → (text ++ space) ++ more ≡ old ++ ((number ++ space) ++ more)
behind_number text old number space more is =
    ap (λ (front : List ℕ). (front ++ space) ++ more) is ∙ ap (λ (front : List ℕ). front ++ more) (append_assoc old number space)
    ∙ append_assoc old (number ++ space) more

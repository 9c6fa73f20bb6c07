-- The numbers from 0 on.
use Rattle.std.{proofs.Common.{◌≡◌, ℕ, zero, suc, ◌+◌, List, [], ◌∷◌, ◌++◌, sym, ap, ◌∙◌, arith}, specs.List.range_with_len}

range_more : (a n : ℕ) → range_with_len a (suc n) ≡ range_with_len a n ++ (a + n) ∷ []
range_more a zero = ap (λ k. k ∷ []) (omega arith)
range_more a (suc n) =
    ap (λ xs. a ∷ xs) (range_more (a + 1) n ∙ ap (λ k. range_with_len (a + 1) n ++ k ∷ []) (omega arith))

pub next_number : (n : ℕ) (xs : List ℕ) → xs ≡ range_with_len 0 n → xs ++ n ∷ [] ≡ range_with_len 0 (n + 1)
next_number n xs is =
    let here : n ≡ 0 + n = omega arith in
    let more : suc n ≡ n + 1 = omega arith in
    ap (λ ys. ys ++ n ∷ []) is ∙ ap (λ k. range_with_len 0 n ++ k ∷ []) here ∙ sym (range_more 0 n) ∙ ap (λ k. range_with_len 0 k) more

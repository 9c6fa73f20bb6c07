-- Pieces that come behind others: what is kept of all of them.
use Rattle.std.proofs.Common.{◌≡◌, ◌≤◌, ◌<◌, ◌+◌, ◌-◌, ◌++◌, ℕ, zero, suc, List, [], ◌∷◌, min, length, take, drop, refl, sym, ap, ◌∙◌, arith, append_assoc}
use Rattle.std.{specs.Prelude.replicate, proofs.lemmas.List.{drop-append-le, drop-drop, drop_at, length-append, length-take, take-append-le, take-take, take_min}}
use Rattle.vs_excerpt.specs.{Excerpt.{back_of, front_of}, declared.TheConstants.{AT_EACH_END, MAX_IN_FULL}}

-- The first n bytes of a piece, over zeros.
over : (p : List ℕ) (n most i j : ℕ) → n ≡ min (length p) most → most ≤ i → most ≤ j
    → take n p ++ drop n (take most (replicate i 0)) ≡ take most (p ++ replicate j 0)
over p n zero i j is at_i at_j = none p n (omega (arith, is))
  where
    none : (p : List ℕ) (n : ℕ) → n ≡ 0 → take n p ++ drop n (take 0 (replicate i 0)) ≡ []
    none p zero is = refl
    none p (suc n) is = absurd (omega (arith, is))
over [] zero (suc most) (suc i) (suc j) is at_i at_j = ap (λ (xs : List ℕ). 0 ∷ xs) (over [] 0 most i j (omega arith) (omega (arith, at_i)) (omega (arith, at_j)))
over [] (suc n) (suc most) i j is at_i at_j = absurd (omega (arith, is))
over (x ∷ p) zero (suc most) i j is at_i at_j = absurd (omega (arith, is))
over (x ∷ p) (suc n) (suc most) (suc i) j is at_i at_j =
    ap (λ (xs : List ℕ). x ∷ xs) (over p n most i j (omega (arith, is)) (omega (arith, at_i)) (omega (arith, at_j)))
over [] zero (suc most) zero j is at_i at_j = absurd (omega (arith, at_i))
over [] zero (suc most) (suc i) zero is at_i at_j = absurd (omega (arith, at_j))
over (x ∷ p) (suc n) (suc most) zero j is at_i at_j = absurd (omega (arith, at_i))

written : (b p : List ℕ) (n most i j : ℕ) → n ≡ min (length p) (most - length b) → length b ≤ most → most ≤ i → most ≤ j
    → take (length b) (take most (b ++ replicate i 0)) ++ (take n p ++ drop (length b + n) (take most (b ++ replicate i 0)))
    ≡ take most ((b ++ p) ++ replicate j 0)
written [] p n most i j is few at_i at_j =
    ap (λ (m : ℕ). take n p ++ drop m (take most (replicate i 0))) (omega arith) ∙ over p n most i j (omega (arith, is)) at_i at_j
written (x ∷ b) p n zero i j is few at_i at_j = absurd (omega (arith, few))
written (x ∷ b) p n (suc most) i j is few at_i at_j =
    let next : suc (length b) + n ≡ suc (length b + n) = omega arith in
    let zeros = take (suc most) (x ∷ (b ++ replicate i 0)) in
    ap (λ (m : ℕ). take (suc (length b)) zeros ++ (take n p ++ drop m zeros)) next
    ∙ ap (λ (xs : List ℕ). x ∷ xs) (written b p n most i j (omega (arith, is)) (omega (arith, few)) (omega (arith, at_i)) (omega (arith, at_j)))

long : (b : List ℕ) → length (front_of b) ≡ MAX_IN_FULL
long b =
    let zeros : List ℕ = replicate MAX_IN_FULL 0 in
    let many : length zeros ≡ MAX_IN_FULL = refl in
    grind (arith, length-take MAX_IN_FULL (b ++ zeros), length-append b zeros, many)

pub front_more : (b p front : List ℕ) (from : ℕ) → front ≡ front_of b → from ≡ length b → from < MAX_IN_FULL
    → (let n = min (length p) (length front - from) in take from front ++ (take n p ++ drop (from + n) front)) ≡ front_of (b ++ p)
front_more b p front from is at few =
    let put : List ℕ → ℕ → ℕ → List ℕ = λ f m k. take k f ++ (take (min (length p) (m - k)) p ++ drop (k + min (length p) (m - k)) f) in
    ap (λ (f : List ℕ). put f (length f) from) is ∙ ap (λ (m : ℕ). put (front_of b) m from) (long b) ∙ ap (put (front_of b) MAX_IN_FULL) at
    ∙ written b p (min (length p) (MAX_IN_FULL - length b)) MAX_IN_FULL MAX_IN_FULL MAX_IN_FULL refl (omega (arith, few, at)) (omega arith) (omega arith)

pub front_full : (b p : List ℕ) → MAX_IN_FULL ≤ length b → front_of b ≡ front_of (b ++ p)
front_full b p many =
    take-append-le MAX_IN_FULL b (replicate MAX_IN_FULL 0) many ∙ sym (take-append-le MAX_IN_FULL b (p ++ replicate MAX_IN_FULL 0) many)
    ∙ ap (λ (xs : List ℕ). take MAX_IN_FULL xs) (sym (append_assoc b p (replicate MAX_IN_FULL 0)))

pub back_more : (b p : List ℕ) → drop (length p) (back_of b ++ p) ≡ back_of (b ++ p)
back_more b p =
    let z : List ℕ = replicate AT_EACH_END 0 in
    ap (λ (xs : List ℕ). drop (length p) xs) (sym (drop-append-le (length b) (z ++ b) p (omega (arith, length-append z b))))
    ∙ drop-drop (length p) (length b) ((z ++ b) ++ p) ∙ ap (λ (n : ℕ). drop n ((z ++ b) ++ p)) (sym (length-append b p))
    ∙ ap (λ (xs : List ℕ). drop (length (b ++ p)) xs) (append_assoc z b p)

-- What is shown of them.
pub shown_front : (b : List ℕ) (most n : ℕ) → n ≡ min most (length b) → most ≤ MAX_IN_FULL → take n (front_of b) ≡ take most b
shown_front b most n is few =
    take-take n MAX_IN_FULL (b ++ replicate MAX_IN_FULL 0) (omega (arith, is)) ∙ take-append-le n b (replicate MAX_IN_FULL 0) (omega (arith, is))
    ∙ ap (λ (m : ℕ). take m b) is ∙ take_min most b

pub shown_back : (b : List ℕ) → AT_EACH_END ≤ length b → back_of b ≡ drop (length b - AT_EACH_END) b
shown_back b many =
    let z : List ℕ = replicate AT_EACH_END 0 in
    let apart : length b ≡ AT_EACH_END + (length b - AT_EACH_END) = omega (arith, many) in
    ap (λ (n : ℕ). drop n (z ++ b)) apart ∙ sym (drop-drop (length b - AT_EACH_END) AT_EACH_END (z ++ b))
    ∙ ap (λ (xs : List ℕ). drop (length b - AT_EACH_END) xs) (drop_at z b AT_EACH_END refl)

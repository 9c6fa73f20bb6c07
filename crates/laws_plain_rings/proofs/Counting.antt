-- How often numbers stand in lists.
use Rattle.std.proofs.{Common.{◌≡◌, ℕ, ◌+◌, ◌<◌, List, [], ◌∷◌, ◌++◌, arith}, lemmas.Bool.Decides.nat_tests}
use Rattle.laws_plain_rings.specs.Queue.{times}

pub times-self : (id : ℕ) → times id (id ∷ []) ≡ 1
times-self id = grind (arith, nat_tests)

pub times-cons : (id x : ℕ) (xs : List ℕ) → times id (x ∷ xs) ≡ times id (x ∷ []) + times id xs
times-cons id x xs = omega arith

pub times-append : (id : ℕ) (xs ys : List ℕ) → times id (xs ++ ys) ≡ times id xs + times id ys
times-append id [] ys = omega arith
times-append id (x ∷ xs) ys = omega (arith, times-append id xs ys)

pub times-push : (id x : ℕ) (xs : List ℕ) → times id (xs ++ x ∷ []) ≡ times id xs + times id (x ∷ [])
times-push id x xs = times-append id xs (x ∷ [])

pub here : (id : ℕ) (xs : List ℕ) → 0 < times id (id ∷ xs)
here id xs = omega (arith, times-cons id id xs, times-self id)

pub there : (id x : ℕ) (xs : List ℕ) → 0 < times id xs → 0 < times id (x ∷ xs)
there id x xs some = omega (arith, times-cons id x xs, some)

pub times-other : (j id : ℕ) → (id ≡ j → ⊥) → times j (id ∷ []) ≡ 0
times-other j id other = grind (arith, nat_tests)

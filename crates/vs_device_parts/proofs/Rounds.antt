-- The order in which connections are served: slots that rise are parted by one of them.
use Rattle.std.proofs.{Common.{◌≡◌, ℕ, zero, suc, ◌<◌, ◌≤◌, true, false, List, [], ◌∷◌, length, take, drop, get_or, refl, ap, arith}, lemmas.Bool.Decides.nat_tests}
use Rattle.std.specs.{Prelude.{nat_lt, nat_le}, List.{AllPairs, AllWithin, filter, Sorted.IsPartitionedBy}}

-- those that are at most one come first
pub parted_by : (last : ℕ) (slots : List ℕ) → AllPairs (λ j k. j < k) slots → IsPartitionedBy (λ slot. nat_le slot last) slots
parted_by last slots rising i j d le lt passes = grind (arith, nat_tests, rising i j d, λ (same : i ≡ j). ap (λ n. get_or slots n d) same)

-- the first places have those that are at most one, and the others those above it
pub record AreParted (last : ℕ) (slots : List ℕ) (n : ℕ) : Type 0 where
  pub above : filter (λ slot. nat_lt last slot) slots ≡ drop n slots
  pub others : filter (λ slot. nat_le slot last) slots ≡ take n slots

pub are_parted : (last : ℕ) (slots : List ℕ) (n : ℕ) → n ≤ length slots → AllWithin (λ slot. nat_le slot last ≡ true) slots 0 n
    → AllWithin (λ slot. nat_le slot last ≡ false) slots n (length slots) → AreParted last slots n
are_parted last [] zero most low high = record { above = refl; others = refl }
are_parted last [] (suc n) most low high = absurd (omega (arith, most))
are_parted last (x ∷ xs) zero most low high =
    let rest = are_parted last xs zero (omega arith) (λ k d le lt. absurd (omega (arith, lt))) (λ k d le lt. high (suc k) d (omega arith) (omega (arith, lt))) in
    let here : nat_le x last ≡ false = high 0 x (omega arith) (omega arith) in
    let above : nat_lt last x ≡ true = grind (arith, nat_tests, here) in
    record { above = rw (above, rest.above) refl; others = rw (here, rest.others) refl }
are_parted last (x ∷ xs) (suc n) most low high =
    let rest = are_parted last xs n (omega (arith, most)) (λ k d le lt. low (suc k) d (omega arith) (omega (arith, lt)))
    (λ k d le lt. high (suc k) d (omega (arith, le)) (omega (arith, lt))) in
    let here : nat_le x last ≡ true = low 0 x (omega arith) (omega arith) in
    let above : nat_lt last x ≡ false = grind (arith, nat_tests, here) in
    record { above = rw (above, rest.above) refl; others = rw (here, rest.others) refl }

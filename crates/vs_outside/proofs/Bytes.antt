-- The first bytes of a list, and the rest, in two steps.
use Rattle.std.proofs.{Common.{◌≡◌, ℕ, zero, suc, ◌+◌, List, [], ◌∷◌, ◌++◌, take, drop, refl, zero-add, arith}, Math.Seq.take-add}

pub take_more : (n m : ℕ) (bytes : List ℕ) → take (n + m) bytes ≡ take n bytes ++ take m (drop n bytes)
take_more n m bytes = take-add n m bytes

drop_none : (n : ℕ) → drop {A = ℕ} n [] ≡ []
drop_none zero = refl
drop_none (suc n) = refl

pub drop_more : (n m : ℕ) (bytes : List ℕ) → drop (n + m) bytes ≡ drop m (drop n bytes)
drop_more zero m bytes = rw (zero-add m) refl
drop_more (suc n) m [] = let e : suc n + m ≡ suc (n + m) = omega arith in rw (e, drop_none m) refl
drop_more (suc n) m (b ∷ bytes) = let e : suc n + m ≡ suc (n + m) = omega arith in rw e (drop_more n m bytes)

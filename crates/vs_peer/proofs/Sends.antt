-- The slices that are sent one after another.
use Rattle.std.proofs.{Common.{◌≡◌, ℕ, zero, suc, ◌+◌, ◌≤◌, false, List, [], ◌∷◌, ◌++◌, length, take, drop, Option, refl, sym, ap, ◌∙◌, arith}, lemmas.List.{take-take, drop-take}}
use Rattle.vs_contents.specs.Contents.{Relates}
use Rattle.vs_outside.specs.Host.{HostContents}
use Rattle.vs_peer.{specs.Passing.{Moves, SameStreams}, proofs.Streams.{relates_as, same_moves}}

-- what lies between two places, and the pieces that a write takes of it
pub piece_of : (xs : List ℕ) (a n m : ℕ) → n ≤ m → take n (take m (drop a xs)) ≡ drop a (take (a + n) xs)
piece_of xs a n m le = take-take n m (drop a xs) le ∙ sym (drop-take a n xs)

none_between : (xs : List ℕ) (a : ℕ) → drop a (take a xs) ≡ []
none_between [] zero = refl
none_between [] (suc a) = refl
none_between (x ∷ xs) zero = refl
none_between (x ∷ xs) (suc a) = none_between xs a

pub joined_between : (xs : List ℕ) (a b : ℕ) → a ≤ b → take a xs ++ drop a (take b xs) ≡ take b xs
joined_between xs zero b le = refl
joined_between [] (suc a) zero le = refl
joined_between [] (suc a) (suc b) le = refl
joined_between (x ∷ xs) (suc a) zero le = absurd (omega (arith, le))
joined_between (x ∷ xs) (suc a) (suc b) le = let below : a ≤ b = omega (arith, le) in ap (λ ys. x ∷ ys) (joined_between xs a b below)

pub length_take_le : (xs : List ℕ) (m : ℕ) → length (take m xs) ≤ m
length_take_le xs zero = omega arith
length_take_le [] (suc m) = omega arith
length_take_le (x ∷ xs) (suc m) = omega (arith, length_take_le xs m)

-- A call that sends nothing.
pub nothing_sent : (id : ℕ) (xs : List ℕ) (a : ℕ) (before after : Option HostContents) → Relates before after SameStreams →
    Relates before after (Moves id (drop a (take a xs)) [] false)
nothing_sent id xs a before after same =
    relates_as id [] _ [] [] false false before after (same_moves id before after same) (sym (none_between xs a)) refl refl

-- The marks of bytes that come together, and the newest one.
use Rattle.std.proofs.Common.{◌≡◌, ℕ, zero, suc, ◌+◌, ◌-◌, ◌<◌, ◌≤◌, ◌==◌, Bool, true, false, cond, List, [], ◌∷◌, ◌++◌, length, take, drop, Option, Some, None, refl, ap, ◌∙◌}
use Rattle.std.{proofs.{Common.{arith, length-append, length-take}, lemmas.Bool.Decides.nat_tests}, specs.Option.{IfSome, option_map}}
use Rattle.circular_buffer.specs.Buffer.{keep_last}
use Rattle.vs_buffer.specs.{declared.messages.Mark.Mark, Messages.{first_message, marks_of, with_last}}
use Rattle.vs_buffer.specs.declared.messages.Mark.TheVariants as mark

first_of_more : (n : ℕ) (last : Mark) → marks_of (suc n) last ≡ cond (n == 0) last mark.None ∷ marks_of n last
first_of_more zero last = refl
first_of_more (suc n) last = let more : (suc n == 0) ≡ false = grind (arith, nat_tests) in rw more refl

-- the mark at a place comes before the later ones
pub mark_next : (place count : ℕ) (last : Mark) → place < count
    → marks_of (count - place) last ≡ cond (place + 1 == count) last mark.None ∷ marks_of (count - (place + 1)) last
mark_next place count last lt =
    let left : count - place ≡ suc (count - (place + 1)) = omega (arith, lt) in
    let same : (count - (place + 1) == 0) ≡ (place + 1 == count) = grind (arith, nat_tests, lt) in
    ap (λ n. marks_of n last) left ∙ first_of_more (count - (place + 1)) last
    ∙ ap (λ b. cond b last mark.None ∷ marks_of (count - (place + 1)) last) same

-- what has room stays whole
pub kept_whole : {X : Type 0} (n : ℕ) (xs : List X) → length xs ≤ n → keep_last n xs ≡ xs
kept_whole n xs le = let none : length xs - n ≡ 0 = omega (arith, le) in ap (λ k. drop k xs) none

-- the newest mark, exchanged
pub record IsRemarked (m : Mark) (ms : List Mark) : Type 0 where
  pub new : take (length ms - 1) ms ++ m ∷ [] ≡ with_last m ms
  pub long : length (with_last m ms) ≡ length ms

pub remarked : (m : Mark) (ms : List Mark) → 0 < length ms → IsRemarked m ms
remarked m [] some = absurd (omega (arith, some))
remarked m (n ∷ ms) some =
    let one : length (n ∷ ms) - 1 ≡ length ms = omega arith in
    record {
      new = ap (λ k. take k (n ∷ ms) ++ m ∷ []) one;
      long = omega (arith, length-append (take (length ms) (n ∷ ms)) (m ∷ []), length-take (length ms) (n ∷ ms));
    }

pub as_many : (n : ℕ) (last : Mark) → length (marks_of n last) ≡ n
as_many zero last = refl
as_many (suc zero) last = refl
as_many (suc (suc n)) last = ap suc (as_many (suc n) last)

abbrev one_more : ℕ × Bool → ℕ × Bool
one_more m = (m.0 + 1, m.1)

-- a message is no longer than all
pub message_within : (ms : List Mark) → IfSome (first_message ms) (λ m. m.0 ≤ length ms)
message_within [] = tt
message_within (mark.End ∷ ms) = omega arith
message_within (mark.Record ∷ ms) = omega arith
message_within (mark.None ∷ ms) = by (first_message ms) (message_within ms)
  where
    by : (o : Option (ℕ × Bool)) → IfSome o (λ m. m.0 ≤ length ms) → IfSome (option_map one_more o) (λ m. m.0 ≤ suc (length ms))
    by None rest = tt
    by (Some m) rest = omega (arith, rest)

-- marks are no more than bytes
pub no_more_marks : (marked : Bool) (marks bytes : ℕ) → marks ≡ cond marked bytes 0 → marks ≤ bytes
no_more_marks true marks bytes is = omega (arith, is)
no_more_marks false marks bytes is = omega (arith, is)

-- Parts of a piece of memory.
use Rattle.std.proofs.Common.{inl, inr, ◌⊎◌, true, false, ◌<◌, ◌≡◌, ℕ, ◌+◌, ◌-◌, ◌≤◌, List, ◌++◌, length, take, drop, refl, sym, ap, ◌∙◌, subst, arith, length-append, length-drop}
use Rattle.std.proofs.{Common.{length-take, length-take-le, append_assoc}, lemmas.{List.{drop-append-le, drop-drop, drop-take, take-take}, Bool.Decides.leb_tells}}
use Rattle.std.{proofs.Math.{ListN.drop_of_length-le, Seq.take-append-add}, specs.Prelude.nat_le as leb}
use Rattle.vs_guest_mem.specs.Memory.{Memory, after_write, bytes_at, overwritten}

-- a part of what is read
part : (xs : List ℕ) (place count long : ℕ) → place + count ≤ long → take count (drop place (take long xs)) ≡ take count (drop place xs)
part xs place count long within =
    let split : long ≡ place + (long - place) = omega (arith, within) in
    ap (λ k. take count (drop place (take k xs))) split ∙ ap (take count) (drop-take place (long - place) xs)
    ∙ take-take count (long - place) (drop place xs) (omega (arith, within))

pub read_part : (m : Memory) (at place count long : ℕ) → m.base ≤ at → place + count ≤ long
    → bytes_at m (at + place) count ≡ take count (drop place (bytes_at m at long))
read_part m at place count long from within =
    let o : ℕ = at - m.base in
    let shift : at + place - m.base ≡ o + place = omega (arith, from) in
    ap (λ k. take count (drop k m.bytes)) shift ∙ ap (take count) (sym (drop-drop place o m.bytes))
    ∙ sym (part (drop o m.bytes) place count long within)

-- what is read where a part was written over
drop_over : (xs : List ℕ) (o place : ℕ) (new : List ℕ) → o + place ≤ length xs
    → drop o (overwritten xs (o + place) new) ≡ overwritten (drop o xs) place new
drop_over xs o place new within =
    let rest = drop (o + place + length new) xs in
    let front : drop o (take (o + place) xs) ≡ take place (drop o xs) = drop-take o place xs in
    let long : length (take (o + place) xs) ≡ o + place = length-take-le (o + place) xs within in
    let same : rest ≡ drop (place + length new) (drop o xs) =
    ap (λ k. drop k xs) (omega arith) ∙ sym (drop-drop (place + length new) o xs) in
    ap (drop o) (append_assoc (take (o + place) xs) new rest) ∙ drop-append-le o (take (o + place) xs) (new ++ rest) (omega (arith, long))
    ∙ ap (λ ys. ys ++ (new ++ rest)) front ∙ ap (λ ys. take place (drop o xs) ++ (new ++ ys)) same
    ∙ sym (append_assoc (take place (drop o xs)) new (drop (place + length new) (drop o xs)))

-- what a front has behind a place
cut : (ys : List ℕ) (k long more : ℕ) → more ≡ long - k → ((leb k long ≡ true) × (k ≤ long)) ⊎ ((leb k long ≡ false) × (long < k))
    → take more (drop k ys) ≡ drop k (take long ys)
cut ys k long more is (inl (test, less)) =
    let split : long ≡ k + more = omega (arith, less, is) in
    sym (ap (λ j. drop k (take j ys)) split ∙ drop-take k more ys)
cut ys k long more is (inr (test, over)) =
    let none : more ≡ 0 = omega (arith, over, is) in
    ap (λ j. take j (drop k ys)) none ∙ sym (drop_of_length-le (take long ys) (omega (arith, over, length-take long ys)))

-- a longer list is written over as its front is
take_over : (ys : List ℕ) (place long more : ℕ) (new : List ℕ) → place ≤ long → long ≤ length ys → more ≡ long - (place + length new)
    → place + length new ≤ length ys
    → take (place + length new + more) (overwritten ys place new) ≡ overwritten (take long ys) place new
take_over ys place long more new before within more_is fits =
    let front : take place (take long ys) ≡ take place ys = take-take place long ys before in
    let head : length (take place ys ++ new) ≡ place + length new =
    length-append (take place ys) new ∙ ap (λ k. k + length new) (length-take-le place ys (omega (arith, before, within))) in
    subst (λ k. take (k + more) ((take place ys ++ new) ++ drop (place + length new) ys) ≡ (take place ys ++ new) ++ take more (drop
    (place + length new) ys))
    head (take-append-add (take place ys ++ new) (drop (place + length new) ys) more)
    ∙ ap (λ zs. (take place ys ++ new) ++ zs) behind ∙ ap (λ zs. (zs ++ new) ++ drop (place + length new) (take long ys)) (sym front)
  where
    behind : take more (drop (place + length new) ys) ≡ drop (place + length new) (take long ys)
    behind = cut ys (place + length new) long more more_is (leb_tells (place + length new) long)

pub written_part : (m : Memory) (at place : ℕ) (new old : List ℕ) → m.base ≤ at → place ≤ length old → old ≡ bytes_at m at (length old)
    → at + length old ≤ m.base + length m.bytes → at + place + length new ≤ m.base + length m.bytes
    → let bytes = overwritten old place new in bytes_at (after_write m (at + place) new) at (length bytes) ≡ bytes
written_part m at place new old from before is inside fits =
    let xs : List ℕ = m.bytes in
    let o : ℕ = at - m.base in
    let ys : List ℕ = drop o xs in
    let more : ℕ = length old - (place + length new) in
    let rest : length ys ≡ length xs - o = length-drop o xs in
    let shift : at + place - m.base ≡ o + place = omega (arith, from) in
    let long : length (overwritten old place new) ≡ place + length new + more =
    length-append (take place old ++ new) (drop (place + length new) old)
    ∙ omega (arith, length-append (take place old) new, length-take-le place old before, length-drop (place + length new) old) in
    ap (λ k. take k (drop o (overwritten xs (at + place - m.base) new))) long
    ∙ ap (λ k. take (place + length new + more) (drop o (overwritten xs k new))) shift
    ∙ ap (take (place + length new + more)) (drop_over xs o place new (omega (arith, from, fits)))
    ∙ take_over ys place (length old) more new before (omega (arith, rest, from, inside)) refl (omega (arith, rest, from, fits))
    ∙ ap (λ zs. overwritten zs place new) (sym is)

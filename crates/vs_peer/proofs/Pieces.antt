-- How reading and writing in pieces add up.
use Rattle.std.proofs.Common.{◌≡◌, ℕ, suc, ◌+◌, ◌-◌, ◌<◌, List, [], ◌++◌, length, take, drop, Option, Some, None, refl, sym, ap, ◌∙◌, subst, append_assoc, append-nil}
use Rattle.std.{proofs.{Common.{length-append, ◌∷◌, arith}, Math.Seq.take-add, lemmas.List.{take_rest, length-drop}}, specs.Bool.⊤}
use Rattle.vs_contents.specs.Contents.{Exposes}
use Rattle.vs_peer.specs.Pieces.{Emits, EmitsSome}

-- the part of a slice from a place on
pub rest_length : (xs : List ℕ) (at : ℕ) → length (take (length xs - at) (drop at xs)) ≡ length xs - at
rest_length xs at = ap length (take_rest xs at) ∙ length-drop at xs

-- the first pieces, and then one more
pub emits_more : (old mid new : Option (List ℕ)) (xs : List ℕ) (at n : ℕ) → Emits old mid (take at xs) →
    Exposes mid new (λ held. ⊤) (λ held. held ++ take n (take (length xs - at) (drop at xs))) → Emits old new (take (at + n) xs)
emits_more None mid new xs at n e h =
    subst (λ m. Exposes m new (λ held. ⊤) (λ held. held ++ take n (take (length xs - at) (drop at xs))) → new ≡ None) (sym e) (λ k. k) h
emits_more (Some held) mid new xs at n e h =
    let one = subst (λ m. Exposes m new (λ held. ⊤) (λ held. held ++ take n (take (length xs - at) (drop at xs)))) e h in
    one.1 ∙ ap (λ ys. Some ys) (append_assoc held (take at xs) (take n (take (length xs - at) (drop at xs)))
    ∙ ap (λ ys. held ++ ys) (ap (λ ys. take at xs ++ take n ys) (take_rest xs at) ∙ sym (take-add at n xs)))

pub emits_none : (old : Option (List ℕ)) → Emits old old []
emits_none None = refl
emits_none (Some held) = ap (λ ys. Some ys) (sym (append-nil held))

-- some bytes, and then some more
pub emits_append : (old mid new : Option (List ℕ)) (xs ys : List ℕ) → Emits old mid xs → Emits mid new ys → Emits old new (xs ++ ys)
emits_append None mid new xs ys e h = subst (λ m. Emits m new ys) e h
emits_append (Some held) mid new xs ys e h = subst (λ m. Emits m new ys) e h ∙ ap (λ zs. Some zs) (append_assoc held xs ys)

-- some bytes, and then less than some more
length_more : (xs ys : List ℕ) (n : ℕ) → n < length ys → length xs + n < length (xs ++ ys)
length_more xs ys n lt = rw (length-append xs ys) (omega (arith, lt))

take_more : (xs ys : List ℕ) (n : ℕ) → take (length xs + n) (xs ++ ys) ≡ xs ++ take n ys
take_more [] ys n = let e : 0 + n ≡ n = omega arith in ap (λ k. take k ys) e
take_more (x ∷ xs) ys n =
    let e : length (x ∷ xs) + n ≡ suc (length xs + n) = omega arith in ap (λ k. take k ((x ∷ xs) ++ ys)) e ∙ ap (λ zs. x ∷ zs)
    (take_more xs ys n)

pub emits_then_some : (old mid new : Option (List ℕ)) (xs ys : List ℕ) → Emits old mid xs → EmitsSome mid new ys →
    EmitsSome old new (xs ++ ys)
emits_then_some None mid new xs ys e h = subst (λ m. EmitsSome m new ys → new ≡ None) (sym e) (λ k. k) h
emits_then_some (Some held) mid new xs ys e h =
    let one = subst (λ m. EmitsSome m new ys) e h in (
      length xs + one.0,
      length_more xs ys one.0 one.1,
      one.2 ∙ ap (λ zs. Some zs) (append_assoc held xs (take one.0 ys) ∙ ap (λ zs. held ++ zs) (sym (take_more xs ys one.0))),
    )

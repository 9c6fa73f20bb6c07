-- The first chain of a list that is a given one, found by its place.
use Rattle.std.proofs.Common.{inl, inr, refl, ◌≡◌, ℕ, zero, suc, ◌<◌, true, false, List, [], ◌∷◌, length, get_or, Some, Contains, sym, ap, ◌∙◌, arith}
use Rattle.std.{proofs.lemmas.{List.{Sums.fails_before_first, Quantifiers.position-Some}, Bool.{false≢true, cases_lt, lt-ltb}}, specs.List.{position, remove, position_or_len}}
use Rattle.std.specs.Option.{IsSome}
use Rattle.vs_ring_port.specs.{declared.{device_ring.Chain.Chain, queue.Queue.{Queue, TheVariants.{Rx, Tx, Event}}}, Chains.{same_chain, same_queue, without}}

same_queue_refl : (q : Queue) → same_queue q q ≡ true
same_queue_refl Rx = refl
same_queue_refl Tx = refl
same_queue_refl Event = refl

same_chain_refl : (c : Chain) → same_chain c c ≡ true
same_chain_refl c = rw (same_queue_refl c.queue) (grind arith)

record IsFirst (c : Chain) (held : List Chain) (i : ℕ) : Type 0 where
  within : i < length held
  here : same_chain c (get_or held i c) ≡ true
  below : (k : ℕ) → k < i → same_chain c (get_or held k c) ≡ false

without_first : (c : Chain) (held : List Chain) (i : ℕ) → IsFirst c held i → without c held ≡ remove held i
without_first c [] i f = absurd (omega (arith, f.within))
without_first c (h ∷ held) zero f = rw f.here refl
without_first c (h ∷ held) (suc i) f =
    rw (f.below 0 (omega arith)) (ap (λ (hs : List Chain). h ∷ hs)
    (without_first c held i (record { within = omega (arith, f.within); here = f.here; below = λ k l. f.below (suc k) (omega arith) })))

pub without_found : (c : Chain) (held : List Chain) (i : ℕ) → position (same_chain c) held ≡ Some i → without c held ≡ remove held i
without_found c held i found =
    let p = position-Some (same_chain c) held i c found in
    without_first c held i (record { within = p.0; here = p.1; below = p.2 })

pub found_if_held : (c : Chain) (held : List Chain) → Contains held c → IsSome (position (same_chain c) held)
found_if_held c held has =
    let passes : same_chain c (get_or held has.0 c) ≡ true = rw has.2 (same_chain_refl c) in
    let early : position_or_len (same_chain c) held < length held = elim (cases_lt (position_or_len (same_chain c) held) (length held)) [
      | inl low ↦ low
      | inr high ↦ absurd (false≢true (sym (fails_before_first (same_chain c) held has.0 c (omega (arith, has.1))) ∙ passes))
    ] in
    rw (lt-ltb _ _ early) refl

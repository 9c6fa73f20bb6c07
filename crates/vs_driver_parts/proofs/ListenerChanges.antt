-- The listeners of a map's entries: what is found of a port, and what changes of the entries leave.
use Rattle.std.proofs.lemmas.{Bool.Decides.nat_tests, List.{get_or-map, Kept.AllPairs-filter, Sums.{length-filter, count_by-le-length}}, Map.{NonePasses, none_passes_from_lookup}}
use Rattle.std.proofs.{lemmas.Map.{Keys.{IsDistinct-tail, apart_from_distinct}, Entries.{length-keys_of, none_past_head}}, Common.{◌≡◌, ◌≢◌, ℕ, ◌≤◌, nat_eq, ◌==◌, true, false}}
use Rattle.std.{proofs.Common.{not, List, [], ◌∷◌, ◌++◌, length, Some, None, is_some, refl, arith}, specs.{List.{AllPairs, IsDistinct}, Map.{keys_of, lookup, set_value}}}
use Rattle.std.specs.{Option.option_map, Cmp.nat_eq_equiv}
use Rattle.arrayvec.specs.ArrayVec.{ArrayVec}
use Rattle.indexmap.specs.IndexMap.{insert_entry}
use Rattle.vs_flow.proofs.Keys.{IsNextPair, next_pair}
use Rattle.vs_driver_parts.specs.{ListenerFields.{listener_of, listeners_of, others}, Listening.{listener_on, with_waiting, with_port}, Connections.without_listener}

-- keys are distinct
apart : (es : List (ℕ × ArrayVec ℕ)) → IsDistinct nat_eq (keys_of es) → AllPairs (λ a b. nat_eq b.0 a.0 ≡ false) es
apart es distinct i j d lt within =
    let far = apart_from_distinct nat_eq (keys_of es) i j d.0 distinct lt (omega (arith, within, length-keys_of es)) in
    let here = get_or-map (λ (e : ℕ × ArrayVec ℕ). e.0) es i d d.0 (omega (arith, lt, within)) in
    let there = get_or-map (λ (e : ℕ × ArrayVec ℕ). e.0) es j d d.0 within in
    grind (arith, nat_tests, far, here, there)

module _ (port : ℕ) where
  -- a port is found where its entry is
  pub found : (es : List (ℕ × ArrayVec ℕ))
      → listener_on port (listeners_of es) ≡ option_map (λ v. listener_of (port, v)) (lookup (nat_eq port) es)
  found [] = refl
  found (e ∷ es) = let rest = found es in grind (arith, nat_tests, rest)

  unwritten : (change : List ℕ → List ℕ) (es : List (ℕ × ArrayVec ℕ)) → NonePasses (nat_eq port) es
      → with_waiting port change (listeners_of es) ≡ listeners_of es
  unwritten change [] none = refl
  unwritten change (e ∷ es) none = let rest = unwritten change es none.1 in grind (arith, nat_tests, none.0, rest)

  -- where none waits, and where what waits is written
  pub waiting_nowhere : (change : List ℕ → List ℕ) (es : List (ℕ × ArrayVec ℕ)) → lookup (nat_eq port) es ≡ None
      → with_waiting port change (listeners_of es) ≡ listeners_of es
  waiting_nowhere change es none = unwritten change es (none_passes_from_lookup (nat_eq port) es none)

  pub waiting_there : (change : List ℕ → List ℕ) (v w : ArrayVec ℕ) (es : List (ℕ × ArrayVec ℕ)) → IsDistinct nat_eq (keys_of es)
      → lookup (nat_eq port) es ≡ Some v → w.items ≡ change v.items → with_waiting port change (listeners_of es) ≡ listeners_of (set_value (nat_eq port) es w)
  waiting_there change v w [] distinct at new = refl
  waiting_there change v w (e ∷ es) distinct at new =
      let here : nat_eq port e.0 ≡ true → with_waiting port change (listeners_of es) ≡ listeners_of es =
      λ is. unwritten change es (none_past_head nat_eq_equiv port e es distinct is) in
      let rest = waiting_there change v w es (IsDistinct-tail nat_eq e.0 (keys_of es) distinct) in
      grind (arith, nat_tests, at, new, here, rest)

  -- with an entry for a port that isn't there
  pub listened : (w : ArrayVec ℕ) (es : List (ℕ × ArrayVec ℕ)) → w.items ≡ [] → is_some (listener_on port (listeners_of es)) ≡ false
      → listeners_of (insert_entry nat_eq es port w) ≡ with_port port (listeners_of es)
  listened w [] none new = grind (arith, none)
  listened w (e ∷ es) none new = let rest = listened w es none in grind (arith, nat_tests, new, rest)

  -- without a port's entry
  pub unlistened : (es : List (ℕ × ArrayVec ℕ)) → without_listener port (listeners_of es) ≡ listeners_of (others port es)
  unlistened [] = refl
  unlistened (e ∷ es) = let rest = unlistened es in grind (arith, nat_tests, rest)

  pub no_more : (es : List (ℕ × ArrayVec ℕ)) → length (others port es) ≤ length es
  no_more es = omega (arith, length-filter (λ e. not (e.0 == port)) es, count_by-le-length (λ e. not (e.0 == port)) es)

  -- an entry that goes behind those that went before it
  pub next_other : (done rest all : List (ℕ × ArrayVec ℕ)) (k : ℕ) (v : ArrayVec ℕ) → IsDistinct nat_eq (keys_of all)
      → done ++ others port ((k, v) ∷ rest) ≡ others port all → k ≢ port
      → IsNextPair nat_eq done (others port rest) (others port all) k v
  next_other done rest all k v distinct seam differs =
      let other : (k == port) ≡ false = grind (arith, nat_tests, differs) in
      next_pair nat_eq done (others port rest) (others port all) k v (rw other at seam)
      (AllPairs-filter (λ a b. nat_eq b.0 a.0 ≡ false) (λ e. not (e.0 == port)) all (apart all distinct))

-- Places in lists: code finds the one element with a property by its place, and writes there or removes it.
use Rattle.std.proofs.Common.{◌≡◌, ◌≢◌, ℕ, zero, suc, ◌+◌, ◌<◌, ◌==◌, Bool, true, false, not, cond, List, [], ◌∷◌, length, map, get_or, set, ltb, drop, Some, None, refl, sym, ap}
use Rattle.std.proofs.{Common.{◌∙◌, arith, drop-cons, add-one}, lemmas.{List.Folds.find_at, Option.{slice_get_read, slice_get_past, slice_get-get_or, slice_get_within}}}
use Rattle.std.{proofs.lemmas.{Option.{get_or_from_slice_get, cond_some}, Bool.Decides.nat_tests}, specs.List.{All, AllPairs, find, filter, remove, position, position_or_len}}
use Rattle.std.specs.List.{slice_get}
use borrow.Author.Tests.{ltb-true}
use Rattle.vs_flow.proofs.Entries.{found_passes, none_found}

not_both : (b : Bool) → b ≡ true → b ≡ false → ⊥
not_both b t f = cc

cond_none : {Y : Type 0} (b : Bool) (y : Y) → cond b (Some y) None ≡ None → b ≡ false
cond_none true y h = cc
cond_none false y h = refl

module _ {X : Type 0} where
  -- no element passes; at most one does
  abbrev pub NonePasses : (X → Bool) → List X → Type 0
  NonePasses p [] = Unit {0}
  NonePasses p (x ∷ xs) = (p x ≡ false) × NonePasses p xs

  abbrev pub AtMostOnePasses : (X → Bool) → List X → Type 0
  AtMostOnePasses p [] = Unit {0}
  AtMostOnePasses p (x ∷ xs) = (p x ≡ true → NonePasses p xs) × AtMostOnePasses p xs

  pub none_passes : (p : X → Bool) (xs : List X) → All (λ x. p x ≡ false) xs → NonePasses p xs
  none_passes p [] all = tt
  none_passes p (x ∷ xs) all = (all 0 x (omega arith), none_passes p xs (λ k d lt. all (suc k) d (omega arith)))

  fails_at : (p : X → Bool) (xs : List X) (i : ℕ) (d : X) → NonePasses p xs → i < length xs → p (get_or xs i d) ≡ false
  fails_at p [] i d none lt = absurd (omega arith)
  fails_at p (x ∷ xs) zero d none lt = none.0
  fails_at p (x ∷ xs) (suc i) d none lt = fails_at p xs i d none.1 (omega arith)

  differ : (key : X → ℕ) (k : ℕ) (x y : X) → key x ≡ k → key x ≢ key y → (key y == k) ≡ false
  differ key k x y is other = let no : key y ≢ k = λ e. other (is ∙ sym e) in grind (arith, nat_tests)

  is_key : (key : X → ℕ) (k : ℕ) (x : X) → (key x == k) ≡ true → key x ≡ k
  is_key key k x e = grind (arith, nat_tests, e)

  -- keys that differ are found once
  pub one_passes : (key : X → ℕ) (k : ℕ) (xs : List X) → AllPairs (λ a b. key a ≢ key b) xs → AtMostOnePasses (λ x. key x == k) xs
  one_passes key k [] distinct = tt
  one_passes key k (x ∷ xs) distinct = (
    λ e. none_passes (λ y. key y == k) xs (λ i d lt. differ key k x (get_or xs i d) (is_key key k x e) (distinct 0 (suc i) d (omega arith) (omega arith))),
    one_passes key k xs (λ i j d lt within. distinct (suc i) (suc j) d (omega arith) (omega arith)),
  )

  pub changed_none : (p : X → Bool) (f : X → X) (xs : List X) → NonePasses p xs → map (λ y. cond (p y) (f y) y) xs ≡ xs
  changed_none p f [] none = refl
  changed_none p f (x ∷ xs) none = rw none.0 (ap (λ (ys : List X). x ∷ ys) (changed_none p f xs none.1))

  pub kept_none : (p : X → Bool) (xs : List X) → NonePasses p xs → filter (λ y. not (p y)) xs ≡ xs
  kept_none p [] none = refl
  kept_none p (x ∷ xs) none = rw none.0 (ap (λ (ys : List X). x ∷ ys) (kept_none p xs none.1))

  fails_before : (p : X → Bool) (x : X) (xs : List X) (i : ℕ) (d : X) → AtMostOnePasses p (x ∷ xs) → i < length xs → p (get_or xs i d) ≡ true → p x ≡ false
  fails_before p x xs i d one lt passes = by (p x) refl
    where
      by : (b : Bool) → b ≡ p x → b ≡ false
      by true is = absurd (not_both (p (get_or xs i d)) passes (fails_at p xs i d (one.0 (sym is)) lt))
      by false is = refl

  -- the one that passes is changed
  pub changed_one : (p : X → Bool) (f : X → X) (xs : List X) (i : ℕ) (d : X) → AtMostOnePasses p xs → i < length xs → p (get_or xs i d) ≡ true
      → map (λ y. cond (p y) (f y) y) xs ≡ set xs i (f (get_or xs i d))
  changed_one p f [] i d one lt passes = absurd (omega arith)
  changed_one p f (x ∷ xs) zero d one lt passes = rw passes (ap (λ (ys : List X). f x ∷ ys) (changed_none p f xs (one.0 passes)))
  changed_one p f (x ∷ xs) (suc i) d one lt passes =
      rw (fails_before p x xs i d one (omega arith) passes) (ap (λ (ys : List X). x ∷ ys) (changed_one p f xs i d one.1 (omega arith) passes))

  -- the one that passes is removed
  pub removed_one : (p : X → Bool) (xs : List X) (i : ℕ) (d : X) → AtMostOnePasses p xs → i < length xs → p (get_or xs i d) ≡ true
      → filter (λ y. not (p y)) xs ≡ remove xs i
  removed_one p [] i d one lt passes = absurd (omega arith)
  removed_one p (x ∷ xs) zero d one lt passes = rw passes (kept_none p xs (one.0 passes))
  removed_one p (x ∷ xs) (suc i) d one lt passes =
      rw (fails_before p x xs i d one (omega arith) passes) (ap (λ (ys : List X). x ∷ ys) (removed_one p xs i d one.1 (omega arith) passes))

  -- the first that passes, by its place
  pub record IsFirst (p : X → Bool) (xs : List X) (i : ℕ) (x : X) : Type 0 where
    pub within : i < length xs
    pub passes : p x ≡ true
    pub found : find p xs ≡ Some x

  pub first_at : (p : X → Bool) (xs : List X) (i : ℕ) (x : X) → position p xs ≡ Some i → x ≡ get_or xs i x → IsFirst p xs i x
  first_at p xs i x h at =
      let c = cond_some (ltb (position_or_len p xs) (length xs)) (position_or_len p xs) i h in
      let lt : position_or_len p xs < length xs = ltb-true (position_or_len p xs) (length xs) c.0 in
      let within : i < length xs = omega (arith, c.1) in
      let found : find p xs ≡ Some x = find_at p xs ∙ (ap (λ n. slice_get xs n) c.1 ∙ slice_get_read xs (length xs) i x refl within at) in
      record { within = within; passes = found_passes p xs x found; found = found }

  pub found_at : (p : X → Bool) (xs : List X) (i : ℕ) (d : X) → position p xs ≡ Some i → find p xs ≡ Some (get_or xs i d)
  found_at p xs i d h =
      let c = cond_some (ltb (position_or_len p xs) (length xs)) (position_or_len p xs) i h in
      let lt : position_or_len p xs < length xs = ltb-true (position_or_len p xs) (length xs) c.0 in
      let within : i < length xs = omega (arith, c.1) in
      find_at p xs ∙ (ap (λ n. slice_get xs n) c.1 ∙ slice_get-get_or xs i d within)

  pub found_nowhere : (p : X → Bool) (xs : List X) → position p xs ≡ None → find p xs ≡ None
  found_nowhere p xs h =
      let no = cond_none (ltb (position_or_len p xs) (length xs)) (position_or_len p xs) h in
      find_at p xs ∙ slice_get_past xs (position_or_len p xs) (grind (arith, nat_tests))

  pub passes_nowhere : (p : X → Bool) (xs : List X) → find p xs ≡ None → NonePasses p xs
  passes_nowhere p xs h = none_passes p xs (none_found p xs h)

  pub passes_there : (p : X → Bool) (xs : List X) (i : ℕ) (x : X) → p x ≡ true → x ≡ get_or xs i x → p (get_or xs i x) ≡ true
  passes_there p xs i x passes at = ap p (sym at) ∙ passes

  -- some element stands at a place
  pub element_at : (xs : List X) (i : ℕ) → i < length xs → (x : X) × (x ≡ get_or xs i x)
  element_at [] i lt = absurd (omega arith)
  element_at (x ∷ xs) zero lt = (x, refl)
  element_at (x ∷ xs) (suc i) lt = element_at xs i (omega arith)

  pub place_within : (p : X → Bool) (xs : List X) (i : ℕ) → position p xs ≡ Some i → i < length xs
  place_within p xs i h =
      let c = cond_some (ltb (position_or_len p xs) (length xs)) (position_or_len p xs) i h in
      let lt : position_or_len p xs < length xs = ltb-true (position_or_len p xs) (length xs) c.0 in
      omega (arith, c.1)

  pub found_slice : (p : X → Bool) (xs : List X) (i : ℕ) → position p xs ≡ Some i → find p xs ≡ slice_get xs i
  found_slice p xs i h =
      let c = cond_some (ltb (position_or_len p xs) (length xs)) (position_or_len p xs) i h in
      find_at p xs ∙ ap (λ n. slice_get xs n) c.1

  pub drop_next : (xs : List X) (i : ℕ) (x : X) → slice_get xs i ≡ Some x → drop i xs ≡ x ∷ drop (i + 1) xs
  drop_next xs i x at =
      drop-cons xs i x (slice_get_within xs i x at)
      ∙ (ap (λ (y : X). y ∷ drop (suc i) xs) (get_or_from_slice_get xs i x x at) ∙ ap (λ (n : ℕ). x ∷ drop n xs) (sym (add-one i)))

-- A flow table and the entries that it has: a step under a slot is one on a flow.
use Rattle.std.proofs.Common.{◌≡◌, ◌≢◌, ℕ, zero, suc, ◌<◌, ◌==◌, Bool, true, false, not, List, [], ◌∷◌, ◌++◌, length, map, filter, find, slice_index_or, Contains, Some, None, refl}
use Rattle.std.{proofs.{Common.{sym, ap, ◌∙◌, subst, arith}, lemmas.Grind.common_steps}, specs.List.AllPairs}
use Rattle.vs_conn.specs.End.{ConnectionEnd}
use Rattle.vs_flow.specs.{Table.{IsRising, IsTable, Table, entry_of, revalued, with_entry, with_value, without}, Flow.same_flow, declared.{flow.Flow.Flow, table.Entry.Entry}}
use Rattle.vs_flow.proofs.Entries.{same_flow_false}
use Rattle.laws_tables.specs.Ends.{FlowEnd, ends_of, entries_of, replaced, without_flow}
use Rattle.vs_page.proofs.Flows.{same_self}

slots_apart : (a b : ℕ) → a < b → ((a == b) ≡ false) × ((b == a) ≡ false)
slots_apart = grind arith

same_slot : (n : ℕ) → (n == n) ≡ true
same_slot = grind arith

module _ {T : Type 0} where
  -- An entry as it counts here.
  abbrev out : (T → ConnectionEnd) → Entry T → FlowEnd
  out end_of x = record { flow = x.flow; end = end_of x.value }

  -- An entry has neither slot nor flow of these.
  abbrev IsApartFrom : Entry T → List (Entry T) → Type 0
  IsApartFrom x [] = Unit {0}
  IsApartFrom x (y ∷ ys) =
      (same_flow x.flow y.flow ≡ false) × (same_flow y.flow x.flow ≡ false) × ((x.slot == y.slot) ≡ false) × ((y.slot == x.slot) ≡ false)
      × IsApartFrom x ys

  abbrev AllApart : List (Entry T) → Type 0
  AllApart [] = Unit {0}
  AllApart (x ∷ xs) = IsApartFrom x xs × AllApart xs

  apart_from : (x : Entry T) (ys : List (Entry T))
      → ((i : ℕ) (d : Entry T) → i < length ys → x.slot < (slice_index_or ys i d).slot)
      → ((i : ℕ) (d : Entry T) → i < length ys → x.flow ≢ (slice_index_or ys i d).flow) → IsApartFrom x ys
  apart_from x [] rising distinct = tt
  apart_from x (y ∷ ys) rising distinct =
      let s = slots_apart x.slot y.slot (rising 0 y (omega arith)) in
      let f = distinct 0 y (omega arith) in (
        same_flow_false x.flow y.flow f,
        same_flow_false y.flow x.flow (λ is. f (sym is)),
        s.0,
        s.1,
        apart_from x ys (λ i d less. rising (suc i) d (omega (arith, less))) (λ i d less. distinct (suc i) d (omega (arith, less))),
      )

  all_apart : (xs : List (Entry T)) → IsRising xs → AllPairs (λ d e. d.flow ≢ e.flow) xs → AllApart xs
  all_apart [] rising distinct = tt
  all_apart (x ∷ xs) rising distinct = (
    apart_from x xs (λ i d less. rising 0 (suc i) d (omega arith) (omega (arith, less)))
        (λ i d less. distinct 0 (suc i) d (omega arith) (omega (arith, less))),
    all_apart xs (λ i j d before less. rising (suc i) (suc j) d (omega (arith, before)) (omega (arith, less)))
        (λ i j d before less. distinct (suc i) (suc j) d (omega (arith, before)) (omega (arith, less))),
  )

  table_apart : (t : Table T) → IsTable t → AllApart t.entries
  table_apart t is = all_apart t.entries is.rising is.distinct

  -- An entry that is apart from another, which stands later.
  apart_at : (y x : Entry T) (ys : List (Entry T)) (k : ℕ) → IsApartFrom y ys → k < length ys → slice_index_or ys k x ≡ x
      → (same_flow x.flow y.flow ≡ false) × ((y.slot == x.slot) ≡ false)
  apart_at y x [] k apart less is = absurd (omega (arith, less))
  apart_at y x (z ∷ ys) zero apart less is =
      let e : z ≡ x = is in
      (subst (λ w. same_flow w.flow y.flow ≡ false) e apart.1, subst (λ w. (y.slot == w.slot) ≡ false) e apart.2)
  apart_at y x (z ∷ ys) (suc k) apart less is = apart_at y x ys k apart.4 (omega (arith, less)) is

  revalued_far : (x : Entry T) (v : T) (ys : List (Entry T)) → IsApartFrom x ys → map (revalued x.slot v) ys ≡ ys
  revalued_far x v [] apart = refl
  revalued_far x v (y ∷ ys) apart = let rest = revalued_far x v ys apart.4 in rw apart.3 (ap (λ zs. y ∷ zs) rest)

  replaced_far : (end_of : T → ConnectionEnd) (x : Entry T) (e : ConnectionEnd) (ys : List (Entry T)) → IsApartFrom x ys
      → replaced x.flow e (map (out end_of) ys) ≡ map (out end_of) ys
  replaced_far end_of x e [] apart = refl
  replaced_far end_of x e (y ∷ ys) apart =
      let rest = replaced_far end_of x e ys apart.4 in rw apart.0 (ap (λ zs. out end_of y ∷ zs) rest)

  kept_far : (x : Entry T) (ys : List (Entry T)) → IsApartFrom x ys → filter (λ e. not (e.slot == x.slot)) ys ≡ ys
  kept_far x [] apart = refl
  kept_far x (y ∷ ys) apart = let rest = kept_far x ys apart.4 in rw apart.3 (ap (λ zs. y ∷ zs) rest)

  without_far : (end_of : T → ConnectionEnd) (x : Entry T) (ys : List (Entry T)) → IsApartFrom x ys
      → without_flow x.flow (map (out end_of) ys) ≡ map (out end_of) ys
  without_far end_of x [] apart = refl
  without_far end_of x (y ∷ ys) apart =
      let rest = without_far end_of x ys apart.4 in rw apart.0 (ap (λ zs. out end_of y ∷ zs) rest)

  ends_far : (end_of : T → ConnectionEnd) (x : Entry T) (ys : List (Entry T)) → IsApartFrom x ys → ends_of x.flow (map (out end_of) ys) ≡ []
  ends_far end_of x [] apart = refl
  ends_far end_of x (y ∷ ys) apart = let rest = ends_far end_of x ys apart.4 in rw apart.0 rest

  value_at : (end_of : T → ConnectionEnd) (x : Entry T) (v : T) (xs : List (Entry T)) (k : ℕ) → AllApart xs → k < length xs
      → slice_index_or xs k x ≡ x → map (out end_of) (map (revalued x.slot v) xs) ≡ replaced x.flow (end_of v) (map (out end_of) xs)
  value_at end_of x v [] k apart less is = absurd (omega (arith, less))
  value_at end_of x v (y ∷ ys) zero apart less is =
      let e : y ≡ x = is in
      subst (λ w. map (out end_of) (map (revalued w.slot v) (y ∷ ys)) ≡ replaced w.flow (end_of v) (map (out end_of) (y ∷ ys))) e
      (rw (same_slot y.slot) (rw (same_self y.flow)
      (ap (λ zs. record { flow = y.flow; end = end_of v } ∷ zs)
      (ap (map (out end_of)) (revalued_far y v ys apart.0) ∙ sym (replaced_far end_of y (end_of v) ys apart.0)))))
  value_at end_of x v (y ∷ ys) (suc k) apart less is =
      let far = apart_at y x ys k apart.0 (omega (arith, less)) is in
      rw far.0 (rw far.1 (ap (λ zs. out end_of y ∷ zs) (value_at end_of x v ys k apart.1 (omega (arith, less)) is)))

  removed_at : (end_of : T → ConnectionEnd) (x : Entry T) (xs : List (Entry T)) (k : ℕ) → AllApart xs → k < length xs
      → slice_index_or xs k x ≡ x
      → map (out end_of) (filter (λ e. not (e.slot == x.slot)) xs) ≡ without_flow x.flow (map (out end_of) xs)
  removed_at end_of x [] k apart less is = absurd (omega (arith, less))
  removed_at end_of x (y ∷ ys) zero apart less is =
      let e : y ≡ x = is in
      subst (λ w. map (out end_of) (filter (λ e. not (e.slot == w.slot)) (y ∷ ys)) ≡ without_flow w.flow (map (out end_of) (y ∷ ys))) e
      (rw (same_slot y.slot) (rw (same_self y.flow)
      (ap (map (out end_of)) (kept_far y ys apart.0) ∙ sym (without_far end_of y ys apart.0))))
  removed_at end_of x (y ∷ ys) (suc k) apart less is =
      let far = apart_at y x ys k apart.0 (omega (arith, less)) is in
      rw far.0 (rw far.1 (ap (λ zs. out end_of y ∷ zs) (removed_at end_of x ys k apart.1 (omega (arith, less)) is)))

  ends_at : (end_of : T → ConnectionEnd) (x : Entry T) (xs : List (Entry T)) (k : ℕ) → AllApart xs → k < length xs
      → slice_index_or xs k x ≡ x → ends_of x.flow (map (out end_of) xs) ≡ end_of x.value ∷ []
  ends_at end_of x [] k apart less is = absurd (omega (arith, less))
  ends_at end_of x (y ∷ ys) zero apart less is =
      let e : y ≡ x = is in
      subst (λ w. ends_of w.flow (map (out end_of) (y ∷ ys)) ≡ end_of w.value ∷ []) e
      (rw (same_self y.flow) (ap (λ zs. end_of y.value ∷ zs) (ends_far end_of y ys apart.0)))
  ends_at end_of x (y ∷ ys) (suc k) apart less is =
      let far = apart_at y x ys k apart.0 (omega (arith, less)) is in
      rw far.0 (ends_at end_of x ys k apart.1 (omega (arith, less)) is)

  -- What stands in a table.
  pub changed_slot : (end_of : T → ConnectionEnd) (t : Table T) (x : Entry T) (v : T) → IsTable t → Contains t.entries x
      → entries_of end_of (with_value t x.slot v) ≡ replaced x.flow (end_of v) (entries_of end_of t)
  changed_slot end_of t x v is there = value_at end_of x v t.entries there.0 (table_apart t is) there.1 there.2

  pub removed_slot : (end_of : T → ConnectionEnd) (t : Table T) (x : Entry T) → IsTable t → Contains t.entries x
      → entries_of end_of (without t x.slot) ≡ without_flow x.flow (entries_of end_of t)
  removed_slot end_of t x is there = removed_at end_of x t.entries there.0 (table_apart t is) there.1 there.2

  pub one_end : (end_of : T → ConnectionEnd) (t : Table T) (x : Entry T) → IsTable t → Contains t.entries x
      → ends_of x.flow (entries_of end_of t) ≡ end_of x.value ∷ []
  one_end end_of t x is there = ends_at end_of x t.entries there.0 (table_apart t is) there.1 there.2

  map_append : (end_of : T → ConnectionEnd) (xs ys : List (Entry T))
      → map (out end_of) (xs ++ ys) ≡ map (out end_of) xs ++ map (out end_of) ys
  map_append end_of xs ys = grind (arith, common_steps)

  pub added_slot : (end_of : T → ConnectionEnd) (t : Table T) (f : Flow) (v : T)
      → entries_of end_of (with_entry t f v) ≡ entries_of end_of t ++ record { flow = f; end = end_of v } ∷ []
  added_slot end_of t f v = map_append end_of t.entries (record { slot = t.given; flow = f; value = v } ∷ [])

  no_end_at : (end_of : T → ConnectionEnd) (f : Flow) (xs : List (Entry T)) → find (λ e. same_flow f e.flow) xs ≡ None
      → ends_of f (map (out end_of) xs) ≡ []
  no_end_at end_of f [] none = refl
  no_end_at end_of f (x ∷ xs) none = let rest = no_end_at end_of f xs in grind (arith, common_steps)

  pub no_entry : (end_of : T → ConnectionEnd) (t : Table T) (f : Flow) → entry_of t f ≡ None → ends_of f (entries_of end_of t) ≡ []
  no_entry end_of t f none = no_end_at end_of f t.entries none

  contains_later : (y x : Entry T) (xs : List (Entry T)) → Contains xs x → Contains (y ∷ xs) x
  contains_later y x xs there = (suc there.0, omega (arith, there.1), there.2)

  found_at : (test : Entry T → Bool) (ys : List (Entry T)) (y x : Entry T) (b : Bool) → test y ≡ b → find test (y ∷ ys) ≡ Some x
      → (find test ys ≡ Some x → Contains ys x × (test x ≡ true)) → Contains (y ∷ ys) x × (test x ≡ true)
  found_at test ys y x b passes is rest = grind (arith, common_steps, contains_later)

  -- An entry that is found is there, and passes the test.
  pub found_by : (test : Entry T → Bool) (xs : List (Entry T)) (x : Entry T) → find test xs ≡ Some x → Contains xs x × (test x ≡ true)
  found_by test [] x is = absurd cc
  found_by test (y ∷ ys) x is = found_at test ys y x (test y) refl is (found_by test ys x)

-- A table in which one entry changes, or leaves: what holds of each entry.
use Rattle.std.proofs.Common.{◌≡◌, ◌≢◌, ℕ, ◌<◌, ◌==◌, nat_lt, Bool, true, false, not, List, [], ◌∷◌, length, filter, map, get_or, Contains, Some, refl, sym, ap, subst, ◌∙◌, arith}
use Rattle.std.{proofs.lemmas.{List.{Elements.{All-filter, All-map, filter_passes}, get_or_default}, Bool.Decides.nat_tests, Option.slice_get-get_or}, specs.List.All}
use Rattle.vs_flow.{specs.{Table.{entry_under, IsTable, Table, revalued, with_value, without}, declared.table.Entry.Entry}, proofs.{Entries.found_at, Tables.revalued-slot}}

-- A change of an entry that then leaves.
module _ {T : Type 0} (slot : ℕ) (v : T) where
  same_kept : (es : List (Entry T)) → filter (λ e. not (e.slot == slot)) (map (revalued slot v) es) ≡ filter (λ e. not (e.slot == slot)) es
  same_kept [] = refl
  same_kept (e ∷ es) = by (e.slot == slot) refl (same_kept es)
    where
      by : (b : Bool) → (e.slot == slot) ≡ b
          → filter (λ x. not (x.slot == slot)) (map (revalued slot v) es) ≡ filter (λ x. not (x.slot == slot)) es
          → filter (λ x. not (x.slot == slot)) (revalued slot v e ∷ map (revalued slot v) es) ≡ filter (λ x. not (x.slot == slot)) (e ∷ es)
      by true at rest = rw (revalued-slot slot v e, at) rest
      by false at rest = rw (revalued-slot slot v e, at) (ap (λ (xs : List (Entry T)). e ∷ xs) rest)

pub without_changed : {T : Type 0} (t : Table T) (slot : ℕ) (v : T) → without (with_value t slot v) slot ≡ without t slot
without_changed t slot v = ap (λ es. record t { entries = es }) (same_kept slot v t.entries)

module _ {T : Type 0} (t : Table T) (sound : IsTable t) (x : Entry T) (there : Contains t.entries x) where
  -- Another entry has another slot and another flow.
  pub record IsOther (y : Entry T) : Type 0 where
    pub slot : (y.slot == x.slot) ≡ false
    pub flow : y.flow ≢ x.flow

  here : (d : Entry T) → get_or t.entries there.0 d ≡ x
  here d = get_or_default t.entries there.0 d x there.1 ∙ there.2

  before : (i : ℕ) (d : Entry T) → i < there.0 → IsOther (get_or t.entries i d)
  before i d less =
      let rising = sound.rising i there.0 d less there.1 in
      let distinct = sound.distinct i there.0 d less there.1 in
      let slots : (get_or t.entries i d).slot < x.slot = subst (λ (y : Entry T). (get_or t.entries i d).slot < y.slot) (here d) rising in
      record {
        slot = grind (arith, nat_tests, slots);
        flow = subst (λ (y : Entry T). (get_or t.entries i d).flow ≢ y.flow) (here d) distinct;
      }

  after : (i : ℕ) (d : Entry T) → there.0 < i → i < length t.entries → IsOther (get_or t.entries i d)
  after i d less within =
      let rising = sound.rising there.0 i d less within in
      let distinct = sound.distinct there.0 i d less within in
      let slots : x.slot < (get_or t.entries i d).slot = subst (λ (y : Entry T). y.slot < (get_or t.entries i d).slot) (here d) rising in
      let flows : x.flow ≢ (get_or t.entries i d).flow = subst (λ (y : Entry T). y.flow ≢ (get_or t.entries i d).flow) (here d) distinct in
      record { slot = grind (arith, nat_tests, slots); flow = λ is. flows (sym is) }

  pub others : (i : ℕ) (d : Entry T) → i < length t.entries → (i == there.0) ≡ false → IsOther (get_or t.entries i d)
  others i d within apart = by (nat_lt i there.0) refl
    where
      by : (b : Bool) → nat_lt i there.0 ≡ b → IsOther (get_or t.entries i d)
      by true less = before i d (grind (arith, nat_tests, less))
      by false more = after i d (grind (arith, nat_tests, more, apart)) within

  same : (i : ℕ) (d : Entry T) → (i == there.0) ≡ true → get_or t.entries i d ≡ x
  same i d is = let at : i ≡ there.0 = grind (arith, nat_tests, is) in ap (λ (k : ℕ). get_or t.entries k d) at ∙ here d

  same_slot : (n : ℕ) → (n == n) ≡ true
  same_slot n = grind arith

  -- Another value of the entry.
  pub changed : (P Q : Entry T → Type 0) (v : T) → All P t.entries → Q (record x { value = v }) → ((y : Entry T) → y.flow ≢ x.flow → P y → Q y)
      → All Q (with_value t x.slot v).entries
  changed P Q v all new old = All-map Q (revalued x.slot v) t.entries (λ i d within. by i d within (i == there.0) refl)
    where
      by : (i : ℕ) (d : Entry T) → i < length t.entries → (b : Bool) → (i == there.0) ≡ b → Q (revalued x.slot v (get_or t.entries i d))
      by i d within true is = subst (λ (y : Entry T). Q (revalued x.slot v y)) (sym (same i d is)) (rw (same_slot x.slot) new)
      by i d within false is =
          let other = others i d within is in
          rw other.slot (old (get_or t.entries i d) other.flow (all i d within))

  -- The entry leaves.
  pub others_left : (P Q : Entry T → Type 0) → All P t.entries → ((y : Entry T) → y.flow ≢ x.flow → P y → Q y) → All Q (without t x.slot).entries
  others_left P Q all old = λ i d within.
      let kept = All-filter (λ (y : Entry T). not (y.slot == x.slot)) (λ (y : Entry T). (y.slot == x.slot) ≡ false → Q y) t.entries
      (λ i d within. by i d within (i == there.0) refl) i d within in
      let passes = filter_passes (λ (y : Entry T). not (y.slot == x.slot)) t.entries i d within in
      kept (fails ((get_or (without t x.slot).entries i d).slot == x.slot) passes)
    where
      fails : (b : Bool) → not b ≡ true → b ≡ false
      fails true is = absurd cc
      fails false is = refl

      by : (i : ℕ) (d : Entry T) → i < length t.entries → (b : Bool) → (i == there.0) ≡ b
          → ((get_or t.entries i d).slot == x.slot) ≡ false → Q (get_or t.entries i d)
      by i d within true is other =
          let at : (x.slot == x.slot) ≡ false = subst (λ (y : Entry T). (y.slot == x.slot) ≡ false) (same i d is) other in
          absurd (grind (arith, at))
      by i d within false is other = let o = others i d within is in old (get_or t.entries i d) o.flow (all i d within)

  -- It is what its slot has.
  pub under_slot : entry_under t x.slot ≡ Some x
  under_slot = found_at t.entries there.0 x sound.rising (slice_get-get_or t.entries there.0 x there.1 ∙ ap (λ (y : Entry T). Some y) there.2)

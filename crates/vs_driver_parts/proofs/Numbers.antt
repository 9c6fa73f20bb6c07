-- The numbers of connections after each change of the slots.
use Rattle.std.proofs.Common.{◌≡◌, ◌≢◌, ℕ, suc, take, drop, ◌+◌, ◌<◌, ◌≤◌, ◌==◌, Bool, true, false, not, List, [], ◌∷◌, ◌++◌, length, get_or, Option, Some, None, refl, sym, ap}
use Rattle.std.proofs.{Common.{◌∙◌, arith}, lemmas.{Bool.Decides.nat_tests, List.Elements.{All-append, All-drop, All-map, All-push, All-take, All-filter, filter_passes}}}
use Rattle.std.{proofs.lemmas.List.{Kept.AllPairs-filter, Quantifiers.{all_pairs_push, all_pairs_remove}}, specs.{List.{All, filter, remove}, Option.option_map_or}}
use Rattle.vs_flow.specs.{Flow.host_asks, Table.{Table, IsTable, entry_under, value_under, with_value, with_entry, without, next_entry, revalued}, declared.flow.Flow.Flow}
use Rattle.vs_flow.proofs.{Entries.none_found, Tables.{revalued-slot, revalued-flow}}
use Rattle.vs_driver_parts.{specs.{State.{DriverConnection, DriverEntry, GoneConnection}, SlotFields.AreNumbered}, proofs.{Ids.{HasId, under, entry_has}, Known.unmapped}}

All_remove : {X : Type 0} (P : X → Type 0) (xs : List X) (i : ℕ) → All P xs → All P (remove xs i)
All_remove P xs i all = All-append P (take i xs) (drop (suc i) xs) (All-take P i xs all) (All-drop P (suc i) xs all)

-- a value of the same id leaves each entry's id
same_id : (slot : ℕ) (d : DriverConnection) (e : DriverEntry) → ((e.slot == slot) ≡ true → d.id ≡ e.value.id) → (revalued slot d e).value.id ≡ e.value.id
same_id slot d e is = by (e.slot == slot) refl
  where
    by : (b : Bool) → (e.slot == slot) ≡ b → (revalued slot d e).value.id ≡ e.value.id
    by true at = rw at (is at)
    by false at = rw at refl

-- the id of the connection in a slot, if there is one; else this one
abbrev pub id_in : Table DriverConnection → ℕ → ℕ → ℕ
id_in t slot id = option_map_or (λ c. c.id) (value_under t slot) id

pub id_there : (t : Table DriverConnection) (slot : ℕ) (c d : DriverConnection) → value_under t slot ≡ Some c → d.id ≡ c.id → id_in t slot d.id ≡ d.id
id_there t slot c d is id = ap (λ (o : Option DriverConnection). option_map_or (λ (v : DriverConnection). v.id) o d.id) is ∙ sym id

module _ (first port next : ℕ) (t : Table DriverConnection) (gone : List GoneConnection) (kept : AreNumbered first port next t gone) where
  pub id_under : (slot : ℕ) (c : DriverConnection) → value_under t slot ≡ Some c → c.id ≡ first + slot
  id_under slot c is =
      let u = under t slot c is in
      let has = entry_has (HasId first) (λ (e : DriverEntry). e.slot == slot) t.entries u.entry kept.slots u.found in
      let id = ap (λ (x : DriverConnection). x.id) u.value in
      omega (arith, has, id, u.slot_is)

  entry_id : (slot : ℕ) (d : DriverConnection) → id_in t slot d.id ≡ d.id → All (λ e. (e.slot == slot) ≡ true → d.id ≡ e.value.id) t.entries
  entry_id slot d id k x lt at = by (value_under t slot) refl
    where
      has : (get_or t.entries k x).value.id ≡ first + slot
      has = let own = kept.slots k x lt in grind (arith, nat_tests, own, at)

      by : (o : Option DriverConnection) → value_under t slot ≡ o → d.id ≡ (get_or t.entries k x).value.id
      by None none =
          let none_there = unmapped (λ (e : DriverEntry). e.value) (entry_under t slot) (sym none) in
          let fails = none_found (λ (e : DriverEntry). e.slot == slot) t.entries none_there k x lt in
          let both : true ≡ false = sym at ∙ fails in absurd (cc)
      by (Some c) is = sym id ∙ ap (λ (o : Option DriverConnection). option_map_or (λ (v : DriverConnection). v.id) o d.id) is ∙ id_under slot c is ∙ sym has

  pub numbers_with_value : (slot : ℕ) (d : DriverConnection) → id_in t slot d.id ≡ d.id → AreNumbered first port next (with_value t slot d) gone
  numbers_with_value slot d id =
      let same : All (λ e. (revalued slot d e).value.id ≡ e.value.id) t.entries = λ k x lt. same_id slot d (get_or t.entries k x) (entry_id slot d id k x lt) in
      record {
        given = kept.given;
        slots = All-map (HasId first) (revalued slot d) t.entries (λ k x lt.
            rw (same k x lt, revalued-slot slot d (get_or t.entries k x)) (kept.slots k x lt));
        below = kept.below;
        apart = λ i g within. All-map (λ (e : DriverEntry). e.value.id ≢ (get_or gone i g).id) (revalued slot d) t.entries (λ k x lt.
            rw (same k x lt) (kept.apart i g within k x lt));
        distinct = kept.distinct;
        ports = All-map (λ (e : DriverEntry). host_asks e.flow ≡ false → e.flow.guest < port) (revalued slot d) t.entries (λ k x lt.
            rw (revalued-flow slot d (get_or t.entries k x)) (kept.ports k x lt));
      }

  pub numbers_with_entry : (flow : Flow) (c : DriverConnection) (port' : ℕ) → c.id ≡ next → port ≤ port' → (host_asks flow ≡ false → flow.guest < port')
      → AreNumbered first port' (next + 1) (with_entry t flow c) gone
  numbers_with_entry flow c port' id more below = record {
    given = omega (arith, kept.given);
    slots = All-push (HasId first) t.entries (next_entry t flow c) kept.slots (omega (arith, kept.given, id));
    below = λ k d lt. omega (arith, kept.below k d lt);
    apart = λ k g lt. All-push (λ (e : DriverEntry). e.value.id ≢ (get_or gone k g).id) t.entries (next_entry t flow c) (kept.apart k g lt)
        (λ same. let less = kept.below k g lt in absurd (omega (arith, same, less, id)));
    distinct = kept.distinct;
    ports = All-push (λ (e : DriverEntry). host_asks e.flow ≡ false → e.flow.guest < port') t.entries (next_entry t flow c)
        (λ k d lt mine. let less = kept.ports k d lt mine in omega (arith, less, more)) below;
  }

  pub numbers_without : (slot : ℕ) → AreNumbered first port next (without t slot) gone
  numbers_without slot =
      let others : DriverEntry → Bool = λ e. not (e.slot == slot) in
      record {
        given = kept.given;
        slots = All-filter others (HasId first) t.entries kept.slots;
        below = kept.below;
        apart = λ k g lt. All-filter others (λ (e : DriverEntry). e.value.id ≢ (get_or gone k g).id) t.entries (kept.apart k g lt);
        distinct = kept.distinct;
        ports = All-filter others (λ (e : DriverEntry). host_asks e.flow ≡ false → e.flow.guest < port) t.entries kept.ports;
      }

  pub numbers_left : (e : DriverEntry) (g : GoneConnection) → IsTable t → entry_under t e.slot ≡ Some e → g.id ≡ e.value.id
      → AreNumbered first port next (without t e.slot) (gone ++ g ∷ [])
  numbers_left e g sound found id =
      let others : DriverEntry → Bool = λ x. not (x.slot == e.slot) in
      let here : DriverEntry → Bool = λ x. x.slot == e.slot in
      let has : HasId first e = entry_has (HasId first) here t.entries e kept.slots found in
      let less = entry_has (λ (x : DriverEntry). x.slot < t.given) here t.entries e sound.were_given found in
      let rest = numbers_without e.slot in
      record {
        given = kept.given;
        slots = rest.slots;
        below = All-push (λ (x : GoneConnection). x.id < next) gone g kept.below (omega (arith, has, less, id, kept.given));
        apart = All-push (λ (x : GoneConnection). All (λ (y : DriverEntry). y.value.id ≢ x.id) (filter others t.entries)) gone g rest.apart
            (λ k d lt same.
            let passes = filter_passes others t.entries k d lt in
            let other = rest.slots k d lt in
            grind (arith, nat_tests, passes, other, has, same, id));
        distinct = all_pairs_push (λ (x : GoneConnection) (y : GoneConnection). x.id ≢ y.id) gone g kept.distinct
            (λ k d lt same. entry_has (λ (y : DriverEntry). y.value.id ≢ (get_or gone k d).id) here t.entries e (kept.apart k d lt) found (sym id ∙ sym same));
        ports = rest.ports;
      }

  pub numbers_gone_without : (p : GoneConnection → Bool) → AreNumbered first port next t (filter p gone)
  numbers_gone_without p = record {
    given = kept.given;
    slots = kept.slots;
    below = All-filter p (λ (g : GoneConnection). g.id < next) gone kept.below;
    apart = All-filter p (λ (g : GoneConnection). All (λ (e : DriverEntry). e.value.id ≢ g.id) t.entries) gone kept.apart;
    distinct = AllPairs-filter (λ (x : GoneConnection) (y : GoneConnection). x.id ≢ y.id) p gone kept.distinct;
    ports = kept.ports;
  }

  pub numbers_gone_removed : (i : ℕ) → i < length gone → AreNumbered first port next t (remove gone i)
  numbers_gone_removed i within =
      let out : GoneConnection → GoneConnection → Type 0 = λ x y. x.id ≢ y.id in
      record {
        given = kept.given;
        slots = kept.slots;
        below = All_remove (λ (g : GoneConnection). g.id < next) gone i kept.below;
        apart = All_remove (λ (g : GoneConnection). All (λ (e : DriverEntry). e.value.id ≢ g.id) t.entries) gone i kept.apart;
        distinct = all_pairs_remove out gone i within kept.distinct;
        ports = kept.ports;
      }

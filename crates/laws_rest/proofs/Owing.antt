-- What an end owes, under the slots of its table and of its entries.
use Rattle.std.proofs.{Common.{◌≡◌, ◌<◌, ◌==◌, ℕ, zero, suc, Bool, true, false, List, [], ◌∷◌, length, Option, Some, None, refl, ap, arith}, lemmas.Bool.{eq-eqb, eqb-true}}
use Rattle.std.{proofs.lemmas.{Grind.common_steps, List.Elements.All-map}, specs.{List.{All, AllPairs}, Option.option_map, Prelude.{find, map, slice_index_or}}}
use Rattle.vs_conn.specs.End.{ConnectionEnd, owes_of}
use Rattle.vs_flow.specs.{Table.{IsTable, Table, entry_under, revalued, slots, with_value}, declared.table.Entry.Entry}
use Rattle.laws_tables.specs.Ends.{entries_of}
use Rattle.laws_rest.proofs.Quiet.{in_list}

module _ {T : Type 0} (end_of : T → ConnectionEnd) where
  abbrev pub end_under : Table T → ℕ → Option ConnectionEnd
  end_under t slot = option_map (λ e. end_of e.value) (entry_under t slot)

  -- A slot under which an end is found is among the slots.
  found_in : (slot : ℕ) (es : List (Entry T)) (e : ConnectionEnd) → option_map (λ x. end_of x.value) (find (λ x. x.slot == slot) es) ≡ Some e
      → in_list slot (map (λ x. x.slot) es) ≡ true
  found_in slot [] e at = absurd cc
  found_in slot (x ∷ es) e at = by_slot (x.slot == slot) refl (found_in slot es e) at where
    by_slot : (b : Bool) → (x.slot == slot) ≡ b
        → (option_map (λ y. end_of y.value) (find (λ y. y.slot == slot) es) ≡ Some e → in_list slot (map (λ y. y.slot) es) ≡ true)
        → option_map (λ y. end_of y.value) (find (λ y. y.slot == slot) (x ∷ es)) ≡ Some e
        → in_list slot (map (λ y. y.slot) (x ∷ es)) ≡ true
    by_slot true same rest at = let s = eqb-true x.slot slot same in grind (arith, common_steps)
    by_slot false other rest at = let r = rest (rw other at at) in grind (arith, common_steps)

  pub listed : (t : Table T) (slot : ℕ) (e : ConnectionEnd) → end_under t slot ≡ Some e → in_list slot (slots t) ≡ true
  listed t slot e at = found_in slot t.entries e at

  -- Another value under a slot changes no slot, and nothing under another.
  changed_slots : (slot : ℕ) (v : T) (es : List (Entry T)) → map (λ x. x.slot) (map (revalued slot v) es) ≡ map (λ x. x.slot) es
  changed_slots slot v [] = refl
  changed_slots slot v (x ∷ es) = let rest = changed_slots slot v es in grind (arith, common_steps)

  changed_other : (slot n : ℕ) (v : T) (es : List (Entry T)) → (n == slot) ≡ false
      → find (λ x. x.slot == n) (map (revalued slot v) es) ≡ find (λ x. x.slot == n) es
  changed_other slot n v [] other = refl
  changed_other slot n v (x ∷ es) other = let rest = changed_other slot n v es other in grind (arith, common_steps)

  pub same_slots : (t : Table T) (slot : ℕ) (v : T) → slots (with_value t slot v) ≡ slots t
  same_slots t slot v = changed_slots slot v t.entries

  pub same_under : (t : Table T) (slot n : ℕ) (v : T) → (n == slot) ≡ false → end_under (with_value t slot v) n ≡ end_under t n
  same_under t slot n v other = ap (option_map (λ e. end_of e.value)) (changed_other slot n v t.entries other)

  -- In a table each entry is the one under its slot.
  slot_apart : (a b : ℕ) → a < b → (a == b) ≡ false
  slot_apart a b less = grind arith

  entry_found : (es : List (Entry T)) (k : ℕ) (d : Entry T) → AllPairs (λ x y. x.slot < y.slot) es → k < length es
      → find (λ x. x.slot == (slice_index_or es k d).slot) es ≡ Some (slice_index_or es k d)
  entry_found [] k d rising less = absurd (omega (arith, less))
  entry_found (x ∷ es) zero d rising less = rw (eq-eqb x.slot x.slot refl) refl
  entry_found (x ∷ es) (suc k) d rising less =
      let rest = entry_found es k d (λ i j e before within. rising (suc i) (suc j) e (omega (arith, before)) (omega (arith, within))) (omega (arith, less)) in
      let apart = slot_apart x.slot (slice_index_or es k d).slot (rising 0 (suc k) d (omega arith) less) in
      rw apart rest

  pub all_owe_none : (t : Table T) → IsTable t → ((slot : ℕ) (e : ConnectionEnd) → end_under t slot ≡ Some e → owes_of e ≡ None)
      → All (λ x. owes_of x.end ≡ None) (entries_of end_of t)
  all_owe_none t table owes =
      All-map (λ x. owes_of x.end ≡ None) (λ (x : Entry T). record { flow = x.flow; end = end_of x.value }) t.entries
      (λ k d less. let x = slice_index_or t.entries k d in
      owes x.slot (end_of x.value) (ap (option_map (λ e. end_of e.value)) (entry_found t.entries k d table.rising less)))

-- The streams of a table's connections, as one of these changes, leaves or comes.
use Rattle.std.proofs.lemmas.Grind.{common_steps}
use Rattle.std.proofs.Common.{◌≡◌, ◌≢◌, ℕ, ◌==◌, Bool, true, false, cond, Contains, Option, Some, None, ap, ◌∙◌, arith}
use Rattle.std.{proofs.{lemmas.Bool.Decides.nat_tests}, specs.Option.{option_map, option_or}}
use Rattle.vs_device_parts.specs.State.{DeviceConnection, DeviceEntry}
use Rattle.vs_flow.specs.{Table.{IsTable, Table, entry_under, value_under, with_entry, with_value, without, next_entry}, declared.flow.Flow.Flow}
use Rattle.vs_flow.proofs.{Entries.find_none, Lookups.entry_under-with_entry}
use Rattle.laws_tables.proofs.Changes.{under_slot}
use Rattle.laws_device.{specs.Named.Streams.stream_under, proofs.Named.Tables.{joined_in, value_after, value_by_entry, value_in, value_without}}

module _ (t : Table DeviceConnection) (sound : IsTable t) (e : DeviceEntry) (is : Contains t.entries e) where
  value_here : value_under t e.slot ≡ Some e.value
  value_here = value_by_entry t e (under_slot t sound e is)

  -- Another stream is that of another connection.
  other_slot : (j id : ℕ) → stream_under t j ≡ Some id → id ≢ e.value.stream → (j == e.slot) ≡ false
  other_slot j id at other = grind (arith, common_steps, value_here)

  pub stream_other : (c : DeviceConnection) (j id : ℕ) → stream_under t j ≡ Some id → id ≢ e.value.stream
      → stream_under (with_value t e.slot c) j ≡ Some id
  stream_other c j id at other =
      ap joined_in (value_after t e.slot j c)
      ∙ ap (λ (b : Bool). joined_in (cond b (option_map (λ d. c) (value_under t j)) (value_under t j))) (other_slot j id at other) ∙ at

  pub stream_stays : (j id : ℕ) → stream_under t j ≡ Some id → id ≢ e.value.stream → stream_under (without t e.slot) j ≡ Some id
  stream_stays j id at other =
      ap joined_in (value_without t e.slot j) ∙ ap (λ (b : Bool). joined_in (cond b None (value_under t j))) (other_slot j id at other) ∙ at

  pub stream_now : (c : DeviceConnection) → c.closed ≡ false → stream_under (with_value t e.slot c) e.slot ≡ Some c.stream
  stream_now c still =
      let own : (e.slot == e.slot) ≡ true = grind arith in
      ap joined_in (value_after t e.slot e.slot c)
      ∙ ap (λ (b : Bool). joined_in (cond b (option_map (λ d. c) (value_under t e.slot)) (value_under t e.slot))) own
      ∙ ap (λ (o : Option DeviceConnection). joined_in (option_map (λ d. c) o)) value_here
      ∙ ap (λ (b : Bool). cond b None (Some c.stream)) still

  pub value_contained : (c : DeviceConnection) → Contains (with_value t e.slot c).entries (record e { value = c })
  value_contained c = grind (arith, common_steps)

-- One comes.
module _ (t : Table DeviceConnection) (f : Flow) (c : DeviceConnection) where
  pub stream_kept : (j id : ℕ) → stream_under t j ≡ Some id → stream_under (with_entry t f c) j ≡ Some id
  stream_kept j id at = ap (λ (o : Option DeviceEntry). joined_in (value_in o)) (entry_under-with_entry t f c j) ∙ by (entry_under t j) at
    where
      by : (o : Option DeviceEntry) → joined_in (value_in o) ≡ Some id
          → joined_in (value_in (option_or o (cond (t.given == j) (Some (next_entry t f c)) None))) ≡ Some id
      by None at = absurd cc
      by (Some e) at = at

  pub stream_comes : IsTable t → c.closed ≡ false → stream_under (with_entry t f c) t.given ≡ Some c.stream
  stream_comes sound still =
      let none : entry_under t t.given ≡ None = find_none (λ (e : DeviceEntry). e.slot == t.given) t.entries (λ i d within.
      let less = sound.were_given i d within in grind (arith, nat_tests, less)) in
      let own : (t.given == t.given) ≡ true = grind arith in
      ap (λ (o : Option DeviceEntry). joined_in (value_in o)) (entry_under-with_entry t f c t.given)
      ∙ ap (λ (o : Option DeviceEntry). joined_in (value_in (option_or o (cond (t.given == t.given) (Some (next_entry t f c)) None)))) none
      ∙ ap (λ (b : Bool). joined_in (value_in (cond b (Some (next_entry t f c)) None))) own
      ∙ ap (λ (b : Bool). cond b None (Some c.stream)) still

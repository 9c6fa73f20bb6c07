-- Bytes that a stream took lie among those that were to be written.
use Rattle.std.proofs.Common.{◌≡◌, ℕ, ◌+◌, ◌≤◌, ◌++◌, length, Option, Some, None, refl, sym, ap, subst, arith, length-append}
use Rattle.std.{specs.Option.IfSome, specs.Option.option_map, proofs.lemmas.List.length-take}
use Rattle.vs_flow.specs.Table.{Table, entry_under, value_under}
use Rattle.vs_device_parts.specs.{State.DeviceConnection, State.DeviceEntry, Streams.to_write}

within : (n : ℕ) (c : DeviceConnection) → n ≤ length (to_write c) → n ≤ length c.ok_line + length c.pending
within n c le = omega (arith, le, length-take 4096 (c.ok_line ++ c.pending), length-append c.ok_line c.pending)

-- what holds of the entry under a slot, if there is one
pub if_under : (P : DeviceConnection → Type 0) (t : Table DeviceConnection) (slot : ℕ) → ((e : DeviceEntry) → entry_under t slot ≡ Some e → P e.value)
    → IfSome (value_under t slot) P
if_under P t slot h = by (entry_under t slot) refl
  where
    by : (o : Option DeviceEntry) → entry_under t slot ≡ o → IfSome (value_under t slot) P
    by None none = let Q : Option DeviceConnection → Type 0 = λ v. IfSome v P in subst Q (sym (ap (option_map (λ (e : DeviceEntry). e.value)) none)) tt
    by (Some e) found = let Q : Option DeviceConnection → Type 0 = λ v. IfSome v P in subst Q (sym (ap (option_map (λ (d : DeviceEntry). d.value)) found)) (h e found)

pub written_within : (t : Table DeviceConnection) (slot n : ℕ) → ((e : DeviceEntry) → entry_under t slot ≡ Some e → n ≤ length (to_write e.value))
    → IfSome (value_under t slot) (λ c. n ≤ length c.ok_line + length c.pending)
written_within t slot n h = if_under (λ c. n ≤ length c.ok_line + length c.pending) t slot (λ e found. within n e.value (h e found))

-- What is noted of the connections that may owe a packet: after a change of the table, and where they are looked at.
use Rattle.std.proofs.Common.{◌≡◌, ◌==◌, ℕ, Bool, true, false, cond, Option, Some, None, get_or, refl, sym, ap, subst, ◌∙◌, arith, not}
use Rattle.std.{proofs.lemmas.{Bool.Decides.nat_tests, List.Elements.{All-filter, All-map, All-push}, Option.slice_get-get_or}, specs.{Prelude.IfSome, List.slice_get}}
use Rattle.vs_conn.specs.End.{owes_of}
use Rattle.vs_flow.{specs.{declared.flow.Flow.Flow, Table.{Table, IsTable, entry_under, value_under, with_value, without, next_entry, revalued, with_entry}}, proofs.Entries.found_at}
use Rattle.vs_driver_parts.specs.{Connections.OweNothing, Owing.{AreNoted, IsNoted, OwesAsNoted, may_owe_in}, State.{DriverConnection, DriverEntry}, declared.owing.Owing.Owing}
use Rattle.vs_driver_parts.proofs.Ids.{entry_has, has_slot, value_of}
use Rattle.vs_driver_parts.specs.declared.owing.Owing.TheVariants as owing

-- a connection has changed
module _ (old new : Owing) (slot : ℕ) (d : DriverConnection) (noted : IsNoted old new slot d) where
  as_changed : (b : Bool) (e : DriverEntry) → (e.slot == slot) ≡ b → OwesAsNoted old e → OwesAsNoted new (cond b (record e { value = d }) e)
  as_changed true e here kept off =
      let at : e.slot ≡ slot = grind (arith, nat_tests, here) in
      noted.none (subst (λ (k : ℕ). may_owe_in new k ≡ false) at off)
  as_changed false e other kept off = kept (noted.still e.slot off)

  pub noted_with_value : (t : Table DriverConnection) → AreNoted old t → AreNoted new (with_value t slot d)
  noted_with_value t kept = All-map (OwesAsNoted new) (revalued slot d) t.entries
      (λ k e lt. let x = get_or t.entries k e in as_changed (x.slot == slot) x refl (kept k e lt))

-- one more is there, and one is there no more
pub noted_with_entry : (old new : Owing) (d : DriverConnection) (t : Table DriverConnection) (flow : Flow) → IsNoted old new t.given d → AreNoted old t
    → AreNoted new (with_entry t flow d)
noted_with_entry old new d t flow noted kept =
    All-push (OwesAsNoted new) t.entries (next_entry t flow d) (λ k e lt off. kept k e lt (noted.still (get_or t.entries k e).slot off)) noted.none

pub noted_without : (owes : Owing) (t : Table DriverConnection) (slot : ℕ) → AreNoted owes t → AreNoted owes (without t slot)
noted_without owes t slot kept = All-filter (λ (e : DriverEntry). not (e.slot == slot)) (OwesAsNoted owes) t.entries kept

-- one that is noted to owe none owes none
pub owes_none_in : (owes : Owing) (t : Table DriverConnection) (slot : ℕ) → AreNoted owes t → may_owe_in owes slot ≡ false
    → IfSome (entry_under t slot) (λ e. owes_of e.value.end ≡ None)
owes_none_in owes t slot kept off = by (entry_under t slot) refl
  where
    by : (o : Option DriverEntry) → entry_under t slot ≡ o → IfSome o (λ e. owes_of e.value.end ≡ None)
    by None none = tt
    by (Some e) found =
        entry_has (OwesAsNoted owes) (λ (x : DriverEntry). x.slot == slot) t.entries e kept found
        (subst (λ (k : ℕ). may_owe_in owes k ≡ false) (sym (has_slot t slot e found)) off)

pub owe_nothing : (t : Table DriverConnection) → AreNoted owing.Nobody t → OweNothing t
owe_nothing t kept = λ k e lt. kept k e lt refl

-- the only one that may have owed a packet was looked at, where it is there
module _ (slot : ℕ) (new : Owing) (t : Table DriverConnection) (sound : IsTable t) (kept : AreNoted (owing.One slot) t) where
  as_seen : (k : ℕ) (e x : DriverEntry) (b : Bool) → slice_get t.entries k ≡ Some x → (slot == x.slot) ≡ b → OwesAsNoted (owing.One slot) x
      → ((c : DriverConnection) → value_under t slot ≡ Some c → may_owe_in new slot ≡ false → owes_of c.end ≡ None) → OwesAsNoted new x
  as_seen k e x true at here old looked off =
      let is : slot ≡ x.slot = grind (arith, nat_tests, here) in
      looked x.value (ap (λ (n : ℕ). value_under t n) is ∙ value_of t x.slot x (found_at t.entries k x sound.rising at))
      (subst (λ (n : ℕ). may_owe_in new n ≡ false) (sym is) off)
  as_seen k e x false at other old looked off = old other

  pub noted_where_seen : ((c : DriverConnection) → value_under t slot ≡ Some c → may_owe_in new slot ≡ false → owes_of c.end ≡ None) → AreNoted new t
  noted_where_seen looked k e lt =
      let x = get_or t.entries k e in
      as_seen k e x (slot == x.slot) (slice_get-get_or t.entries k e lt) refl (kept k e lt) looked

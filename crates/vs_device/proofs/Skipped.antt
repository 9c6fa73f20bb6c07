-- A stage that is left out, since it would do nothing on any connection.
use Rattle.std.proofs.Common.{◌≡◌, ℕ, ◌==◌, Bool, true, false, cond, not, List, [], ◌∷◌, ◌++◌, length, take, Option, Some, None, refl, sym, arith, length-append}
use Rattle.std.{proofs.lemmas.{Bool.Decides.nat_tests, List.{length-take, Elements.{All-head, All-tail}}}, specs.{Prelude.{◌&&◌, ◌||◌}, List.{All, find}, Option.IfSome}}
use Rattle.std.specs.Option.{option_map_or}
use Rattle.vs_limits.specs.declared.TheConstants.{WRITE_MAX}
use Rattle.vs_contents.specs.CallTree.{Done, for_each}
use Rattle.vs_flow.specs.Table.{Table, entry_under, slots}
use Rattle.vs_device_parts.specs.{Calls.DeviceTree, Connections.is_timed_out, State.{DeviceConnection, DeviceEntry, DeviceState}, Streams.{Writing, is_written_out, pump_slot}}
use Rattle.vs_device_parts.specs.{Streams.{shut_write, tick_slot, to_write, write_pending}, Watched.has_to_write}

-- what holds of all entries holds of one that is found
module _ (P : DeviceEntry → Type 0) (p : DeviceEntry → Bool) where
  found_by : (b : Bool) (e : DeviceEntry) (o : Option DeviceEntry) → P e → IfSome o P → IfSome (cond b (Some e) o) P
  found_by true e o here rest = here
  found_by false e o here rest = rest

  found : (es : List DeviceEntry) → All P es → IfSome (find p es) P
  found [] all = tt
  found (e ∷ es) all = found_by (p e) e (find p es) (All-head P e es all) (found es (All-tail P e es all))

pub all_under : (P : DeviceEntry → Type 0) (t : Table DeviceConnection) (slot : ℕ) → All P t.entries → IfSome (entry_under t slot) P
all_under P t slot all = found P (λ (e : DeviceEntry). e.slot == slot) t.entries all

-- a step that does nothing in any slot does nothing in all
pub none_does : {A : Type 0} (step : ℕ → A → DeviceTree A) (x : A) → ((slot : ℕ) → step slot x ≡ Done x) → (xs : List ℕ) → for_each step xs x ≡ Done x
none_does step x none [] = refl
none_does step x none (i ∷ is) = rw (none i) (none_does step x none is)

-- no connection waits too long
ticks_none : (s : DeviceState) (slot : ℕ) (o : Option DeviceEntry) → entry_under s.table slot ≡ o → IfSome o (λ e. is_timed_out s.now e.value ≡ false)
    → tick_slot slot s ≡ Done s
ticks_none s slot None is early = rw (is, tick_slot) refl
ticks_none s slot (Some e) is early = rw (is, early, tick_slot) refl

pub none_times_out : (s : DeviceState) → All (λ e. is_timed_out s.now e.value ≡ false) s.table.entries → for_each tick_slot (slots s.table) s ≡ Done s
none_times_out s all =
    let P : DeviceEntry → Type 0 = λ e. is_timed_out s.now e.value ≡ false in
    none_does tick_slot s (λ slot. ticks_none s slot (entry_under s.table slot) refl (all_under P s.table slot all)) (slots s.table)

-- what `has_to_write` tests, test by test
pub record NoneHolds (no_line no_pending ends : Bool) : Type 0 where
  pub empty_line : no_line ≡ true
  pub empty_pending : no_pending ≡ true
  pub ends_not : ends ≡ false

none_holds : (closed no_line no_pending sends shut : Bool) → closed ≡ false
    → (not closed && (not no_line || not no_pending || (sends && not shut))) ≡ false → NoneHolds no_line no_pending (sends && not shut)
none_holds true no_line no_pending sends shut still none = absurd (cc)
none_holds false true true sends shut still none = record { empty_line = refl; empty_pending = refl; ends_not = none }
none_holds false true false sends shut still none = absurd (cc)
none_holds false false no_pending sends shut still none = absurd (cc)

not_out : (closed sends no_line no_pending shut : Bool) → (sends && not shut) ≡ false → (not closed && sends && no_line && no_pending && not shut) ≡ false
not_out true sends no_line no_pending shut none = refl
not_out false false no_line no_pending shut none = refl
not_out false true false no_pending shut none = refl
not_out false true true false shut none = refl
not_out false true true true true none = refl
not_out false true true true false none = absurd (cc)

no_bytes : (n : ℕ) (line pending : List ℕ) → (length line == 0) ≡ true → (length pending == 0) ≡ true → (length (take n (line ++ pending)) == 0) ≡ true
no_bytes n line pending no_line no_pending =
    grind (arith, nat_tests, length-append line pending, length-take n (line ++ pending), no_line, no_pending)

-- nothing is to be written to a connection's stream, and its write side isn't to be shut
pub record HasNone (c : DeviceConnection) : Type 0 where
  pub bytes : (length (to_write c) == 0) ≡ true
  pub written_out : is_written_out c ≡ false

pub has_none : (c : DeviceConnection) → c.closed ≡ false → has_to_write c ≡ false → HasNone c
has_none c still none =
    let tests = none_holds c.closed (length c.ok_line == 0) (length c.pending == 0) c.end.peer.send c.write_shut still none in
    record {
      bytes = no_bytes WRITE_MAX c.ok_line c.pending tests.empty_line tests.empty_pending;
      written_out = not_out c.closed c.end.peer.send (length c.ok_line == 0) (length c.pending == 0) c.write_shut tests.ends_not;
    }

module _ (slot : ℕ) (w : Writing) where
  pumps_by : (e : DeviceEntry) → entry_under w.state.table slot ≡ Some e → (closed : Bool) → e.value.closed ≡ closed → has_to_write e.value ≡ false
      → pump_slot slot w ≡ Done w
  pumps_by e is true closed none = rw (is, closed, pump_slot) refl
  pumps_by e is false closed none =
      let h = has_none e.value closed none in
      rw (is, closed, pump_slot) (rw (h.bytes, write_pending) (rw (is, h.written_out, shut_write) refl))

  pumps_none : (o : Option DeviceEntry) → entry_under w.state.table slot ≡ o → IfSome o (λ e. has_to_write e.value ≡ false) → pump_slot slot w ≡ Done w
  pumps_none None is none = rw (is, pump_slot) refl
  pumps_none (Some e) is none = pumps_by e is e.value.closed refl none

  if_none : (o : Option DeviceEntry) → option_map_or (λ e. has_to_write e.value) o false ≡ false → IfSome o (λ e. has_to_write e.value ≡ false)
  if_none None none = tt
  if_none (Some e) none = none

  -- a slot is left out
  pub nothing_pumped : false ≡ option_map_or (λ e. has_to_write e.value) (entry_under w.state.table slot) false → pump_slot slot w ≡ Done w
  nothing_pumped none = pumps_none (entry_under w.state.table slot) refl (if_none (entry_under w.state.table slot) (sym none))

-- all are
pub none_writes : (w : Writing) → All (λ e. has_to_write e.value ≡ false) w.state.table.entries → for_each pump_slot (slots w.state.table) w ≡ Done w
none_writes w all =
    let P : DeviceEntry → Type 0 = λ e. has_to_write e.value ≡ false in
    none_does pump_slot w (λ slot. pumps_none slot w (entry_under w.state.table slot) refl (all_under P w.state.table slot all)) (slots w.state.table)

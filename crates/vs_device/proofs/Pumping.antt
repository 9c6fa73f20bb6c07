-- What writing to the host's streams comes to.
use Rattle.std.proofs.{Common.{◌≡◌, ◌≢◌, ℕ, ◌+◌, ◌≤◌, ◌==◌, Bool, true, false, not, length, Option, Some, None, refl, sym, ap, subst, arith}, lemmas.Bool.Decides.nat_tests}
use Rattle.std.specs.{Prelude.◌&&◌, Option.{ForSome, option_map_or}}
use Rattle.vs_contents.{specs.CallTree.{Done, Ask, bind}, proofs.{Leads.{leads_of, leads_bind}, Conditions.{may_rest, may_of}}}
use Rattle.vs_flow.specs.Table.{entry_under}
use Rattle.vs_outside.specs.{Host.{IsOpen, TakesSome}, InOut.MovesSome, declared.host_net.StreamWrite.StreamWrite}
use Rattle.vs_device_parts.specs.{Calls.{Situation, DeviceTree, Allows, WriteStream, ShutWrite}, Connections.{with_connection, with_fault, after_shut, after_written, cut_off}}
use Rattle.vs_device_parts.specs.{Streams.{Writing, closing, pump_slot, shut_write, to_write, write_answered, write_pending, is_written_out}, State.{DeviceConnection, DeviceEntry}}
use Rattle.vs_device_parts.specs.{State.DeviceState, Playing.{CanMake, MayRun, Runs}, Watched.has_to_write, Written.writing}
use Rattle.vs_outside.specs.declared.host_net.StreamWrite.TheVariants as write

-- a write's answer
module _ (e : DeviceEntry) (s : DeviceState) (k : ℕ) (answer : StreamWrite) (t : DeviceState) where
  pub took : (n : ℕ) (x : Situation) → answer ≡ write.Took n → t ≡ with_connection e.slot (after_written n e.value) s
      → Runs (write_answered e answer (writing s k)) x (writing t (k + n)) x
  took n x is end =
      let P : StreamWrite → Type 0 = λ a. Runs (write_answered e a (writing s k)) x (writing t (k + n)) x in
      subst P (sym is) (ap (λ (u : DeviceState). writing u (k + n)) (sym end), refl)

  pub host_closed : (x : Situation) → answer ≡ write.Closed → t ≡ with_connection e.slot (after_shut 1 s.now e.value) s
      → Runs (write_answered e answer (writing s k)) x (writing t k) x
  host_closed x is end =
      let P : StreamWrite → Type 0 = λ a. Runs (write_answered e a (writing s k)) x (writing t k) x in
      subst P (sym is) (ap (λ (u : DeviceState). writing u k) (sym end), refl)

  ended : DeviceState → DeviceTree Writing
  ended u = Done (writing u k)

  pub write_failed : (x y : Situation) → answer ≡ write.Failed → Runs (closing e cut_off (with_fault s)) x t y
      → Runs (write_answered e answer (writing s k)) x (writing t k) y
  unfolding ended
  write_failed x y is runs =
      let P : StreamWrite → Type 0 = λ a. Runs (write_answered e a (writing s k)) x (writing t k) y in
      subst P (sym is) (leads_bind Allows (closing e cut_off (with_fault s)) ended x y y t (writing t k) runs (refl, refl))

not_zero : (n : ℕ) → n ≢ 0 → (n == 0) ≡ false
not_zero n some = grind (arith, nat_tests, some)

-- what is pending is written
module _ (e : DeviceEntry) (w : Writing) (some : length (to_write e.value) ≢ 0) where
  asks : write_pending e w ≡ Ask (WriteStream e.value.stream (to_write e.value)) (λ answer. write_answered e answer w)
  asks = rw (not_zero (length (to_write e.value)) some) refl

  pub may_be_answered : (answer : StreamWrite) (x y : Situation) → MayRun (write_pending e w) x → Allows (WriteStream e.value.stream (to_write e.value)) answer x y
      → MayRun (write_answered e answer w) y
  may_be_answered answer x y may allowed = (may_of CanMake Allows _ _ x asks may).1 answer y allowed

  pub wrote : (answer : StreamWrite) (x y z : Situation) (r : Writing) → Allows (WriteStream e.value.stream (to_write e.value)) answer x y
      → Runs (write_answered e answer w) y r z → Runs (write_pending e w) x r z
  wrote answer x y z r allowed rest = leads_of Allows _ _ x z r asks (answer, y, allowed, rest)

-- the write side is shut
module _ (slot : ℕ) (w : Writing) (e : DeviceEntry) (found : entry_under w.state.table slot ≡ Some e) where
  shuts : is_written_out e.value ≡ true
      → shut_write slot w ≡ Ask (ShutWrite e.value.stream) (λ _. Done (record w { state = with_connection slot (record e.value { write_shut = true }) w.state }))
  shuts is = rw (found, is, shut_write) refl

  pub may_shut_write : (x : Situation) → MayRun (shut_write slot w) x → is_written_out e.value ≡ true → ForSome x.host (IsOpen e.value.stream)
  may_shut_write x may is = (may_of CanMake Allows _ _ x (shuts is) may).0

  pub was_shut : (x y : Situation) (t : DeviceState) → is_written_out e.value ≡ true → Allows (ShutWrite e.value.stream) tt x y
      → t ≡ with_connection slot (record e.value { write_shut = true }) w.state → Runs (shut_write slot w) x (record w { state = t }) y
  was_shut x y t is allowed end =
      leads_of Allows _ _ x y (record w { state = t }) (shuts is)
      (tt, y, allowed, (ap (λ (u : DeviceState). let r : Writing = record w { state = u } in r) (sym end), refl))

-- a slot in turn
pub record HasStream (o : Option DeviceEntry) : Type 0 where
  pub entry : DeviceEntry
  pub is : o ≡ Some entry
  pub open_ : entry.value.closed ≡ false

open_by : (closed rest : Bool) → (not closed && rest) ≡ true → closed ≡ false
open_by false rest has = refl
open_by true rest has = absurd (cc)

writes_open : (c : DeviceConnection) → has_to_write c ≡ true → c.closed ≡ false
writes_open c has = open_by c.closed _ has

pub writes_some : (o : Option DeviceEntry) → option_map_or (λ e. has_to_write e.value) o false ≡ true → HasStream o
writes_some None h = absurd (cc)
writes_some (Some e) h = record { entry = e; is = refl; open_ = writes_open e.value h }

pub has_stream : (o : Option DeviceEntry) → option_map_or (λ e. not e.value.closed) o false ≡ true → HasStream o
has_stream None h = absurd (cc)
has_stream (Some e) h = record { entry = e; is = refl; open_ = by e.value.closed refl h }
  where
    by : (b : Bool) → e.value.closed ≡ b → not e.value.closed ≡ true → e.value.closed ≡ false
    by false is h = is
    by true is h = absurd (cc)

module _ (slot : ℕ) (w : Writing) (e : DeviceEntry) (found : entry_under w.state.table slot ≡ Some e) (still : e.value.closed ≡ false) where
  pumps : pump_slot slot w ≡ bind (write_pending e w) (shut_write slot)
  pumps = rw (found, still, pump_slot) refl

  pub may_shut_then : (x y : Situation) (u : Writing) → MayRun (pump_slot slot w) x → Runs (write_pending e w) x u y → MayRun (shut_write slot u) y
  may_shut_then x y u may first = may_rest CanMake Allows (write_pending e w) (shut_write slot) x y u (may_of CanMake Allows _ _ x pumps may) first

  pub pumped : (x y z : Situation) (u v : Writing) → Runs (write_pending e w) x u y → Runs (shut_write slot u) y v z → Runs (pump_slot slot w) x v z
  pumped x y z u v first rest = leads_of Allows _ _ x z v pumps (leads_bind Allows (write_pending e w) (shut_write slot) x y z u v first rest)

-- a write of some bytes took at most as many
pub took_within : (n k : ℕ) (answer : StreamWrite) → answer ≡ write.Took n → TakesSome answer k → n ≤ k
took_within n k answer is some = let P : StreamWrite → Type 0 = λ a. TakesSome a k in let h : MovesSome n k = subst P is some in h.0

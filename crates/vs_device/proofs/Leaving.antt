-- What closing a stream comes to, and leaving the table.
use Rattle.std.{proofs.Common.{◌≡◌, ℕ, ◌==◌, Bool, true, false, not, cond, List, [], ◌∷◌, map, refl, sym, ap, subst, ◌∙◌}, specs.List.filter}
use Rattle.vs_contents.{specs.CallTree.{Done, Ask, bind}, proofs.{Leads.{leads_of, leads_bind}, Conditions.may_of}}
use Rattle.vs_flow.{specs.{CleanPairs.kept_if, Table.{Table, with_value, without, revalued}, declared.flow.Flow.Flow}, proofs.Tables.revalued-slot}
use Rattle.vs_wrap.specs.Wrap.{counted}
use Rattle.vs_device_parts.specs.{Calls.{Situation, DeviceTree, Allows, CloseStream}, Connections.{with_connection, stream_closed, after_leaving, keeping}}
use Rattle.vs_device_parts.specs.{Playing.{CanMake, MayRun, MayClose, Runs}, State.{DeviceConnection, DeviceEntry, DeviceState}, Streams.{closing, leaving}}
use Rattle.vs_device_parts.proofs.Under.{with_value_twice}

-- a stream is closed, or was
module _ (e : DeviceEntry) (f : DeviceConnection → DeviceConnection) (s : DeviceState) where
  asks : e.value.closed ≡ false → closing e f s ≡ Ask (CloseStream e.value.stream) (λ _. Done (with_connection e.slot (f e.value) s))
  asks is = rw is refl

  pub is_closed_now : (x y : Situation) → e.value.closed ≡ false → Allows (CloseStream e.value.stream) tt x y → Runs (closing e f s) x (with_connection e.slot (f e.value) s) y
  is_closed_now x y is allowed = leads_of Allows _ _ x y (with_connection e.slot (f e.value) s) (asks is) (tt, y, allowed, (refl, refl))

  pub may_close : (x : Situation) → MayRun (closing e f s) x → MayClose e.value x.host
  may_close x may is = (may_of CanMake Allows _ _ x (asks is) may).0

-- it leaves
without_revalued : (slot : ℕ) (c : DeviceConnection) (es : List DeviceEntry)
    → filter (λ (e : DeviceEntry). not (e.slot == slot)) (map (revalued slot c) es) ≡ filter (λ (e : DeviceEntry). not (e.slot == slot)) es
without_revalued slot c [] = refl
without_revalued slot c (e ∷ es) = by (e.slot == slot) refl (without_revalued slot c es)
  where
    by : (b : Bool) → (e.slot == slot) ≡ b → filter (λ (d : DeviceEntry). not (d.slot == slot)) (map (revalued slot c) es) ≡ filter (λ (d : DeviceEntry). not (d.slot == slot)) es
        → filter (λ (d : DeviceEntry). not (d.slot == slot)) (map (revalued slot c) (e ∷ es)) ≡ filter (λ (d : DeviceEntry). not (d.slot == slot)) (e ∷ es)
    by true is rest = rw (revalued-slot slot c e, is) rest
    by false is rest = rw (revalued-slot slot c e, is) (ap (λ (ds : List DeviceEntry). e ∷ ds) rest)

pub without_with_value : (t : Table DeviceConnection) (slot : ℕ) (c : DeviceConnection) → without (with_value t slot c) slot ≡ without t slot
without_with_value t slot c = ap (λ (es : List DeviceEntry). let u : Table DeviceConnection = record t { entries = es } in u) (without_revalued slot c t.entries)

pub leaves : (keep : Bool) (e : DeviceEntry) (s t : DeviceState) (x y : Situation)
    → Runs (closing e stream_closed s) x (with_connection e.slot (stream_closed e.value) s) y
    → t ≡ keeping keep e.flow (after_leaving e.slot s) → Runs (leaving keep e s) x t y
leaves keep e s t x y closed is =
    let m : DeviceState = with_connection e.slot (stream_closed e.value) s in
    let end : keeping keep e.flow (after_leaving e.slot m) ≡ t =
    ap (λ (u : Table DeviceConnection). let r : DeviceState = record (keeping keep e.flow (after_leaving e.slot s)) { table = u } in r)
    (without_with_value s.table e.slot (stream_closed e.value)) ∙ sym is in
    leads_bind Allows (closing e stream_closed s) _ x y y m t closed (end, refl)

-- the device with another connection under a slot
pub changed : (s new : DeviceState) (slot : ℕ) (e : DeviceEntry) (c : DeviceConnection) (t : Table DeviceConnection) → s ≡ new → t ≡ with_value s.table slot c → e.slot ≡ slot
    → ◌≡◌ {A = DeviceState} (record s { table = t }) (with_connection e.slot c new)
changed s new slot e c t view is at =
    ap (λ (u : Table DeviceConnection). let r : DeviceState = record s { table = u } in r) is
    ∙ (ap (λ (n : ℕ). with_connection n c s) (sym at) ∙ ap (λ (x : DeviceState). with_connection e.slot c x) view)

pub left : (s new : DeviceState) (slot : ℕ) (e : DeviceEntry) (t : Table DeviceConnection) (n : ℕ) (keep : Bool) (clean : List Flow) → s ≡ new
    → t ≡ without s.table slot → n ≡ counted s.closed → clean ≡ kept_if keep e.flow s.clean → e.slot ≡ slot
    → ◌≡◌ {A = DeviceState} (record s { table = t; clean = clean; closed = n }) (keeping keep e.flow (after_leaving e.slot new))
left s new slot e t n keep clean view is count kept at =
    ap (λ (u : Table DeviceConnection). let r : DeviceState = record s { table = u; clean = clean; closed = n } in r) is
    ∙ (ap (λ (k : ℕ). let r : DeviceState = record s { table = without s.table slot; clean = clean; closed = k } in r) count
    ∙ (ap (λ (fs : List Flow). let r : DeviceState = record (after_leaving slot s) { clean = fs } in r) kept
    ∙ (ap (λ (k : ℕ). keeping keep e.flow (after_leaving k s)) (sym at) ∙ ap (λ (x : DeviceState). keeping keep e.flow (after_leaving e.slot x)) view)))

-- the device with another connection under a slot where it had another already
pub changed_twice : (s m : DeviceState) (slot : ℕ) (e : DeviceEntry) (a c : DeviceConnection) (t : Table DeviceConnection) → m ≡ with_connection slot a s
    → t ≡ with_value m.table slot c → e.slot ≡ slot → ◌≡◌ {A = DeviceState} (record m { table = t }) (with_connection e.slot c s)
changed_twice s m slot e a c t mid is at =
    ap (λ (u : Table DeviceConnection). let r : DeviceState = record m { table = u } in r) is
    ∙ (ap (λ (x : DeviceState). let r : DeviceState = record x { table = with_value x.table slot c } in r) mid
    ∙ (ap (λ (u : Table DeviceConnection). let r : DeviceState = record s { table = u } in r) (with_value_twice s.table slot a c)
    ∙ ap (λ (n : ℕ). with_connection n c s) (sym at)))

-- leaving doesn't see the connection that was there
ends_as : (closed : Bool) (stream : ℕ) → DeviceState → DeviceTree DeviceState
ends_as closed stream u = cond closed (Done u) (Ask (CloseStream stream) (λ _. Done u))

closing_twice : (e : DeviceEntry) (f : DeviceConnection → DeviceConnection) (a : DeviceConnection) (s : DeviceState)
    → closing e f (with_connection e.slot a s) ≡ closing e f s
unfolding ends_as
closing_twice e f a s =
    ap (ends_as e.value.closed e.value.stream)
    (ap (λ (u : Table DeviceConnection). let r : DeviceState = record s { table = u } in r) (with_value_twice s.table e.slot a (f e.value)))

pub leaving_twice : (keep : Bool) (e : DeviceEntry) (a : DeviceConnection) (s m t : DeviceState) (x y : Situation) → m ≡ with_connection e.slot a s
    → Runs (leaving keep e m) x t y → Runs (leaving keep e s) x t y
leaving_twice keep e a s m t x y is runs =
    let P : DeviceState → Type 0 = λ u. Runs (leaving keep e u) x t y in
    let Q : DeviceTree DeviceState → Type 0 = λ p. Runs (bind p (λ u. Done (keeping keep e.flow (after_leaving e.slot u)))) x t y in
    subst Q (closing_twice e stream_closed a s) (subst P is runs)

pub kept_as_is : (b k : Bool) (e : DeviceEntry) (s t : DeviceState) (x y : Situation) → b ≡ k → Runs (leaving b e s) x t y → Runs (leaving k e s) x t y
kept_as_is b k e s t x y is runs = let P : Bool → Type 0 = λ c. Runs (leaving c e s) x t y in subst P is runs

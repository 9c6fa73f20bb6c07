-- Connections by id: a slot and an id are given together.
use Rattle.std.proofs.Common.{◌≡◌, ℕ, suc, ◌+◌, ◌<◌, ◌==◌, ◌&&◌, Bool, true, false, not, cond, List, [], ◌∷◌, Option, Some, None, refl, sym, ap, ◌∙◌, arith}
use Rattle.std.{proofs.lemmas.Bool.Decides.nat_tests, specs.{List.{All, find}, Option.{option_and_then, option_map}}}
use Rattle.vs_flow.{specs.Table.{Table, IsTable, IsRising, entry_under, value_under}, proofs.{Entries.{All_at, find_none, found_at, found_passes}, Lookups.find_place}}
use Rattle.vs_driver_parts.specs.State.{DriverConnection, DriverEntry, is_known_as}

abbrev pub unless_closed : DriverEntry → Option DriverEntry
unless_closed e = cond e.value.closed None (Some e)

abbrev pub HasId : ℕ → DriverEntry → Type 0
HasId first e = e.value.id ≡ first + e.slot

by_closed : (b closed : Bool) (e : DriverEntry) (r q : Option DriverEntry) → e.value.closed ≡ closed → (b ≡ true → r ≡ None)
    → r ≡ option_and_then unless_closed q → cond (b && not closed) (Some e) r ≡ option_and_then unless_closed (cond b (Some e) q)
by_closed true true e r q is none rest = none refl ∙ sym (ap (λ (b : Bool). cond b None (Some e)) is)
by_closed true false e r q is none rest = sym (ap (λ (b : Bool). cond b None (Some e)) is)
by_closed false closed e r q is none rest = rest

-- the connection that is known by an id is the one in its slot, unless that is closed
pub known_by_slot : (first id k : ℕ) (es : List DriverEntry) → IsRising es → All (HasId first) es → id ≡ first + k
    → find (is_known_as id) es ≡ option_and_then unless_closed (find (λ e. e.slot == k) es)
known_by_slot first id k [] rising have is = refl
known_by_slot first id k (e ∷ es) rising have is =
    let here : e.value.id ≡ first + e.slot = have 0 e (omega arith) in
    let rest = known_by_slot first id k es (λ i j d lt within. rising (suc i) (suc j) d (omega arith) (omega arith)) (λ i d lt. have (suc i) d (omega arith)) is in
    let same : (e.value.id == id) ≡ (e.slot == k) = grind (arith, nat_tests, here, is) in
    let none : (e.slot == k) ≡ true → find (is_known_as id) es ≡ None =
    λ at. find_none (is_known_as id) es (λ i d lt.
    let there = have (suc i) d (omega arith) in
    let above = rising 0 (suc i) d (omega arith) (omega arith) in
    grind (arith, nat_tests, there, above, at, is)) in
    rw same (by_closed (e.slot == k) e.value.closed e (find (is_known_as id) es) (find (λ (x : DriverEntry). x.slot == k) es) refl none rest)

-- an id below the first is none's
pub known_below : (first id : ℕ) (es : List DriverEntry) → All (HasId first) es → id < first → find (is_known_as id) es ≡ None
known_below first id es have below = find_none (is_known_as id) es (λ i d lt. let there = have i d lt in grind (arith, nat_tests, there, below))

-- what is found stands under its slot
pub found_under : (p : DriverEntry → Bool) (t : Table DriverConnection) (e : DriverEntry) → IsTable t → find p t.entries ≡ Some e → entry_under t e.slot ≡ Some e
found_under p t e sound found =
    let place = find_place p t.entries e found in
    found_at t.entries place.0 e sound.rising place.1

-- what holds of each entry holds of one that is found
pub entry_has : (P : DriverEntry → Type 0) (p : DriverEntry → Bool) (es : List DriverEntry) (e : DriverEntry) → All P es → find p es ≡ Some e → P e
entry_has P p es e all found = let place = find_place p es e found in All_at P es place.0 e all place.1

-- the value under a slot is that of an entry
pub record IsUnder (t : Table DriverConnection) (slot : ℕ) (c : DriverConnection) : Type 0 where
  pub entry : DriverEntry
  pub found : entry_under t slot ≡ Some entry
  pub value : entry.value ≡ c
  pub slot_is : entry.slot ≡ slot

pub has_slot : (t : Table DriverConnection) (slot : ℕ) (e : DriverEntry) → entry_under t slot ≡ Some e → e.slot ≡ slot
has_slot t slot e found = let passes = found_passes (λ (d : DriverEntry). d.slot == slot) t.entries e found in grind (arith, nat_tests, passes)

pub under : (t : Table DriverConnection) (slot : ℕ) (c : DriverConnection) → value_under t slot ≡ Some c → IsUnder t slot c
under t slot c is = by (entry_under t slot) refl
  where
    by : (o : Option DriverEntry) → entry_under t slot ≡ o → IsUnder t slot c
    by None none = let e : None ≡ Some c = sym (ap (option_map (λ (d : DriverEntry). d.value)) none) ∙ is in absurd (cc)
    by (Some e) found =
        let same : Some e.value ≡ Some c = sym (ap (option_map (λ (d : DriverEntry). d.value)) found) ∙ is in
        record { entry = e; found = found; value = cc; slot_is = has_slot t slot e found }

pub value_of : (t : Table DriverConnection) (slot : ℕ) (e : DriverEntry) → entry_under t slot ≡ Some e → value_under t slot ≡ Some e.value
value_of t slot e found = ap (option_map (λ (d : DriverEntry). d.value)) found

slot_unless : (b : Bool) (e : DriverEntry) (k : ℕ) → e.value.closed ≡ b → e.slot ≡ k
    → option_map (λ x. x.slot) (cond b None (Some e)) ≡ cond b None (Some k)
slot_unless true e k is at = refl
slot_unless false e k is at = ap (λ (n : ℕ). Some n) at

-- the slot of the connection that is known by an id
pub known_slot : (first id k : ℕ) (t : Table DriverConnection) (o : Option DriverConnection) → IsTable t → All (HasId first) t.entries → id ≡ first + k
    → value_under t k ≡ o
    → option_map (λ e. e.slot) (find (is_known_as id) t.entries) ≡ option_and_then (λ c. cond c.closed None (Some k)) o
known_slot first id k t o sound have is at = rw (known_by_slot first id k t.entries sound.rising have is) (by (entry_under t k) refl)
  where
    by : (x : Option DriverEntry) → entry_under t k ≡ x
        → option_map (λ e. e.slot) (option_and_then unless_closed (entry_under t k)) ≡ option_and_then (λ (c : DriverConnection). cond c.closed None (Some k)) o
    by None none =
        let gone : o ≡ None = sym at ∙ ap (option_map (λ (d : DriverEntry). d.value)) none in
        rw (none, gone) refl
    by (Some e) found =
        let there : o ≡ Some e.value = sym at ∙ value_of t k e found in
        rw (found, there) (slot_unless e.value.closed e k refl (has_slot t k e found))

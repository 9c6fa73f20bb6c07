-- The entry under a slot, and the table with another value there.
use Rattle.std.proofs.{Common.{◌≡◌, ℕ, ◌==◌, Bool, true, false, cond, List, [], ◌∷◌, map, Option, Some, None, is_some, refl, sym, ap, ◌∙◌, arith}, lemmas.{Bool.Decides.nat_tests, List.Folds.map_fixed}}
use Rattle.std.specs.{Option.option_map, List.{find, slice_get}}
use Rattle.vs_flow.{specs.Table.{Table, IsRising, IsTable, entry_under, value_under, with_value, revalued, emptied}, proofs.{Entries.{above_head, found_at, found_passes, rising_tail}, Tables.revalued-slot}}
use Rattle.vs_flow.proofs.Lookups.{entry_under-with_value}
use Rattle.vs_device_parts.specs.State.{DeviceConnection, DeviceEntry}

pub has_slot : (t : Table DeviceConnection) (slot : ℕ) (e : DeviceEntry) → entry_under t slot ≡ Some e → e.slot ≡ slot
has_slot t slot e found = let passes = found_passes (λ (d : DeviceEntry). d.slot == slot) t.entries e found in grind (arith, nat_tests, passes)

pub value_of : (t : Table DeviceConnection) (slot : ℕ) (e : DeviceEntry) → entry_under t slot ≡ Some e → value_under t slot ≡ Some e.value
value_of t slot e found = ap (option_map (λ (d : DeviceEntry). d.value)) found

-- the value under a slot is that of an entry
pub record IsUnder (t : Table DeviceConnection) (slot : ℕ) (c : DeviceConnection) : Type 0 where
  pub entry : DeviceEntry
  pub found : entry_under t slot ≡ Some entry
  pub value : entry.value ≡ c
  pub slot_is : entry.slot ≡ slot

pub under : (t : Table DeviceConnection) (slot : ℕ) (c : DeviceConnection) → value_under t slot ≡ Some c → IsUnder t slot c
under t slot c is = by (entry_under t slot) refl
  where
    by : (o : Option DeviceEntry) → entry_under t slot ≡ o → IsUnder t slot c
    by None none = let e : None ≡ Some c = sym (ap (option_map (λ (d : DeviceEntry). d.value)) none) ∙ is in absurd (cc)
    by (Some e) found =
        let same : Some e.value ≡ Some c = sym (ap (option_map (λ (d : DeviceEntry). d.value)) found) ∙ is in
        record { entry = e; found = found; value = cc; slot_is = has_slot t slot e found }

no_value : {X Y : Type 0} (f : X → Y) (o : Option X) → option_map f o ≡ None → o ≡ None
no_value f None e = refl
no_value f (Some x) e = absurd (cc)

pub none_under : (t : Table DeviceConnection) (slot : ℕ) → value_under t slot ≡ None → entry_under t slot ≡ None
none_under t slot none = no_value (λ (e : DeviceEntry). e.value) (entry_under t slot) none

abbrev pub with_its : DeviceEntry → DeviceConnection → DeviceEntry
with_its e c = record e { value = c }

revalued_here : (slot : ℕ) (c : DeviceConnection) (e : DeviceEntry) (b : Bool) → b ≡ (e.slot == slot) → b ≡ true → revalued slot c e ≡ with_its e c
revalued_here slot c e b is holds = rw (sym is ∙ holds) refl

-- another value stands under the slot
pub under_changed : (t : Table DeviceConnection) (slot : ℕ) (e : DeviceEntry) (c : DeviceConnection) → entry_under t slot ≡ Some e
    → entry_under (with_value t slot c) slot ≡ Some (with_its e c)
under_changed t slot e c found =
    let at = has_slot t slot e found in
    let holds : (e.slot == slot) ≡ true = grind (arith, nat_tests, at) in
    entry_under-with_value t slot c slot
    ∙ (ap (option_map (revalued slot c)) found ∙ ap (λ (d : DeviceEntry). Some d) (revalued_here slot c e (e.slot == slot) refl holds))

pub value_is : (t : Table DeviceConnection) (slot : ℕ) (e : DeviceEntry) (c : DeviceConnection) → entry_under t slot ≡ Some e → value_under t slot ≡ Some c → e.value ≡ c
value_is t slot e c found is = let same : Some e.value ≡ Some c = sym (value_of t slot e found) ∙ is in cc

pub value_changed : (t : Table DeviceConnection) (slot : ℕ) (e : DeviceEntry) (c : DeviceConnection) → entry_under t slot ≡ Some e
    → value_under (with_value t slot c) slot ≡ Some c
value_changed t slot e c found = value_of (with_value t slot c) slot (with_its e c) (under_changed t slot e c found)

revalued_twice : (slot : ℕ) (a b : DeviceConnection) (e : DeviceEntry) → revalued slot b (revalued slot a e) ≡ revalued slot b e
revalued_twice slot a b e = by (e.slot == slot) refl
  where
    by : (h : Bool) → (e.slot == slot) ≡ h → revalued slot b (revalued slot a e) ≡ revalued slot b e
    by true is = rw (revalued-slot slot a e, is) refl
    by false is = rw (revalued-slot slot a e, is) refl

map_twice : (slot : ℕ) (a b : DeviceConnection) (es : List DeviceEntry) → map (revalued slot b) (map (revalued slot a) es) ≡ map (revalued slot b) es
map_twice slot a b [] = refl
map_twice slot a b (e ∷ es) =
    ap (λ (d : DeviceEntry). d ∷ map (revalued slot b) (map (revalued slot a) es)) (revalued_twice slot a b e)
    ∙ ap (λ (ds : List DeviceEntry). revalued slot b e ∷ ds) (map_twice slot a b es)

-- the last value written stands
pub with_value_twice : (t : Table DeviceConnection) (slot : ℕ) (a b : DeviceConnection) → with_value (with_value t slot a) slot b ≡ with_value t slot b
with_value_twice t slot a b = ap (λ (es : List DeviceEntry). let u : Table DeviceConnection = record t { entries = es } in u) (map_twice slot a b t.entries)

-- the value that stands under a slot is written again
written_again : (slot : ℕ) (e : DeviceEntry) (es : List DeviceEntry) → IsRising es → find (λ d. d.slot == slot) es ≡ Some e → map (revalued slot e.value) es ≡ es
written_again slot e [] rising found = refl
written_again slot e (d ∷ es) rising found = by (d.slot == slot) refl found (written_again slot e es (rising_tail d es rising))
  where
    by : (b : Bool) → (d.slot == slot) ≡ b → cond b (Some d) (find (λ x. x.slot == slot) es) ≡ Some e
        → (find (λ x. x.slot == slot) es ≡ Some e → map (revalued slot e.value) es ≡ es) → map (revalued slot e.value) (d ∷ es) ≡ d ∷ es
    by true is found rest =
        let here : d.slot ≡ slot = grind (arith, nat_tests, is) in
        let same : e ≡ d = let both : Some d ≡ Some e = found in cc in
        let above = above_head d es rising in
        let others : map (revalued slot e.value) es ≡ es =
        map_fixed (revalued slot e.value) es (λ i x lt. let far = above i x lt in grind (arith, nat_tests, far, here)) in
        rw (is, others) (ap (λ (x : DeviceEntry). with_its d x.value ∷ es) same)
    by false is found rest = rw is (ap (λ (xs : List DeviceEntry). d ∷ xs) (rest found))

pub with_value_again : (t : Table DeviceConnection) (slot : ℕ) (e : DeviceEntry) → IsTable t → entry_under t slot ≡ Some e → with_value t e.slot e.value ≡ t
with_value_again t slot e sound found =
    ap (λ (n : ℕ). with_value t n e.value) (has_slot t slot e found)
    ∙ ap (λ (es : List DeviceEntry). let u : Table DeviceConnection = record t { entries = es } in u) (written_again slot e t.entries sound.rising found)

-- what a look-up by another key found
pub record IsMapped {X : Type 0} (f : X → ℕ) (o : Option X) (n : ℕ) : Type 0 where
  pub from : X
  pub some : o ≡ Some from
  pub gives : f from ≡ n

pub mapped : {X : Type 0} (f : X → ℕ) (o : Option X) (n : ℕ) → Some n ≡ option_map f o → IsMapped f o n
mapped f None n is = absurd (cc)
mapped f (Some x) n is = record { from = x; some = refl; gives = cc }

-- the first entry stands under its slot
pub first_under : (t : Table DeviceConnection) (slot : ℕ) → IsTable t → Some slot ≡ option_map (λ e. e.slot) (slice_get t.entries 0)
    → (e : DeviceEntry) × (entry_under t slot ≡ Some e)
first_under t slot sound is =
    let m = mapped (λ (e : DeviceEntry). e.slot) (slice_get t.entries 0) slot is in
    (m.from, ap (λ (n : ℕ). entry_under t n) (sym m.gives) ∙ found_at t.entries 0 m.from sound.rising m.some)

-- none is left
no_entries : (es : List DeviceEntry) → None ≡ option_map (λ (e : DeviceEntry). e.slot) (slice_get es 0) → es ≡ []
no_entries [] is = refl
no_entries (e ∷ es) is = absurd (cc)

pub none_left : (t : Table DeviceConnection) → None ≡ option_map (λ e. e.slot) (slice_get t.entries 0) → t ≡ emptied t
none_left t is = ap (λ (es : List DeviceEntry). let u : Table DeviceConnection = record t { entries = es } in u) (no_entries t.entries is)

some_from : {X Y : Type 0} (f : X → Y) (o : Option X) → is_some (option_map f o) ≡ true → (x : X) × (o ≡ Some x)
some_from f None is = absurd (cc)
some_from f (Some x) is = (x, refl)

pub some_value : (t : Table DeviceConnection) (slot : ℕ) → is_some (value_under t slot) ≡ true → (e : DeviceEntry) × (entry_under t slot ≡ Some e)
some_value t slot is = some_from (λ (e : DeviceEntry). e.value) (entry_under t slot) is

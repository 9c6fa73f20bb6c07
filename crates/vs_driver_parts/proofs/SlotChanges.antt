-- What always holds of the slots after a change of the table.
use Rattle.std.proofs.lemmas.{Option.{slice_get_within, get_or_from_slice_get}, Bool.Decides.nat_tests, List.Edits.length-remove}
use Rattle.std.proofs.{lemmas.List.{length-map, get_or_append_left}, Math.Seq.get_or-append_seam, Common.{◌≡◌, ◌≢◌, ℕ, ◌+◌, ◌<◌, ◌==◌, Bool, true, false, cond, List, [], ◌∷◌}}
use Rattle.std.{proofs.Common.{◌++◌, length, get_or, Some, None, sym, ap, subst, ◌∙◌, arith, length-append}, specs.{List.{All, AllPairs, find}, Option.option_and_then}}
use Rattle.std.specs.Option.{option_map}
use Rattle.vs_flow.specs.{declared.flow.Flow.Flow, Table.{Table, IsTable, entry_under, value_under, with_value, without, revalued}}
use Rattle.vs_flow.proofs.{Lookups.{find_place, entry_under-with_value}, Tables.with_value_sound, Entries.{find_none, found_passes}}
use Rattle.vs_driver_parts.specs.{Connections.{gone_as, is_let_go}, Held.{HeldSlots, left_in}, Owing.IsNoted, SlotFields.AreKept, declared.{owing.Owing.Owing, slots.Slots.TheInside.Inside}}
use Rattle.vs_driver_parts.{specs.State.{DriverConnection, DriverEntry, GoneConnection, is_known_as}, proofs.{Lists.{one_passes, removed_one}, Numbers.{id_in, id_there, id_under}}}
use Rattle.vs_driver_parts.proofs.{Noting.noted_with_value, Numbers.numbers_with_value, Ids.{value_of, has_slot, under, known_by_slot, unless_closed, entry_has}, Clean.clean_value}

pub kept_with_connection : (s : Inside) (slot : ℕ) (d : DriverConnection) (new : Owing) → AreKept s → id_in s.table slot d.id ≡ d.id
    → IsNoted s.owes new slot d → AreKept (record s { table = with_value s.table slot d; owes = new })
kept_with_connection s slot d new kept id noted = record {
  numbers = numbers_with_value s.first_id s.next_port s.next_id s.table s.gone.items kept.numbers slot d id;
  clean = clean_value s.next_port s.table s.clean slot d kept.clean;
  last_port = kept.last_port;
  last_id = kept.last_id;
  table = with_value_sound s.table slot d kept.table;
  table_room = kept.table_room;
  gone_room = kept.gone_room;
  buffers = omega (arith, kept.buffers, length-map s.table.entries (revalued slot d));
  buffer_room = kept.buffer_room;
  spare = kept.spare;
  noted = noted_with_value s.owes new slot d noted s.table kept.noted;
}

-- A connection is closed: its id is none's then.
pub knows_none : (s : Inside) (slot : ℕ) (c d : DriverConnection) → AreKept s → value_under s.table slot ≡ Some c → d.id ≡ c.id → d.closed ≡ true
    → (find (is_known_as c.id) (with_value s.table slot d).entries ≡ None) × (find (λ g. g.id == c.id) s.gone.items ≡ None)
knows_none s slot c d kept is id closed =
    let u = under s.table slot c is in
    let new = numbers_with_value s.first_id s.next_port s.next_id s.table s.gone.items kept.numbers slot d (id_there s.table slot c d is id) in
    let sound = with_value_sound s.table slot d kept.table in
    let number = id_under s.first_id s.next_port s.next_id s.table s.gone.items kept.numbers slot c is in
    let changed : entry_under (with_value s.table slot d) slot ≡ Some (record u.entry { value = d }) =
    entry_under-with_value s.table slot d slot ∙ (ap (option_map (revalued slot d)) u.found
    ∙ revalued_there slot d u.entry u.slot_is) in (
      known_by_slot s.first_id c.id slot (with_value s.table slot d).entries sound.rising new.slots number
          ∙ (ap (option_and_then unless_closed) changed ∙ ap (λ (b : Bool). cond b None (Some (record u.entry { value = d }))) closed),
      find_none (λ (g : GoneConnection). g.id == c.id) s.gone.items (λ k x lt.
          let apart = entry_has (λ (e : DriverEntry). e.value.id ≢ (get_or s.gone.items k x).id) (λ (e : DriverEntry). e.slot == slot) s.table.entries u.entry
          (kept.numbers.apart k x lt) u.found in
          let value = ap (λ (y : DriverConnection). y.id) u.value in
          grind (arith, nat_tests, apart, value)),
    )
  where
    revalued_there : (k : ℕ) (v : DriverConnection) (e : DriverEntry) → e.slot ≡ k → Some (revalued k v e) ≡ Some (record e { value = v })
    revalued_there k v e at = grind (arith, nat_tests, at)

-- A connection leaves: what the slots are then.
left_with : Bool → ℕ → GoneConnection → HeldSlots → HeldSlots
left_with free slot g s = record s { table = without s.table slot; gone = cond free s.gone (s.gone ++ g ∷ []) }

module _ (s : HeldSlots) (slot : ℕ) (e : DriverEntry) (c : DriverConnection) (found : entry_under s.table slot ≡ Some e) (is : Some c ≡ value_under s.table slot) where
  value_is : c ≡ e.value
  value_is = let same : Some c ≡ Some e.value = is ∙ value_of s.table slot e found in cc

  slot_is : e.slot ≡ slot
  slot_is = has_slot s.table slot e found

  pub left_free : is_let_go c ≡ true → ◌≡◌ {A = HeldSlots} (record s { table = without s.table slot }) (left_in e s)
  unfolding left_with
  left_free free =
      let go : true ≡ is_let_go e.value = sym free ∙ ap is_let_go value_is in
      ap (λ (b : Bool). left_with b slot (gone_as e) s) go ∙ ap (λ (n : ℕ). left_with (is_let_go e.value) n (gone_as e) s) (sym slot_is)

  pub left_kept : (f : Flow) (g : GoneConnection) → is_let_go c ≡ false → Some f ≡ option_map (λ x. x.flow) (entry_under s.table slot)
      → g ≡ record { id = c.id; flow = f; end = c.end; unread = c.unread }
      → ◌≡◌ {A = HeldSlots} (record s { table = without s.table slot; gone = s.gone ++ g ∷ [] }) (left_in e s)
  unfolding left_with
  left_kept f g kept flow new =
      let go : false ≡ is_let_go e.value = sym kept ∙ ap is_let_go value_is in
      let same : Some f ≡ Some e.flow = flow ∙ ap (option_map (λ (x : DriverEntry). x.flow)) found in
      let flow_is : f ≡ e.flow = cc in
      let gone_is : g ≡ gone_as e = new
      ∙ (ap (λ (x : DriverConnection). let k : GoneConnection = record { id = x.id; flow = f; end = x.end; unread = x.unread } in k) value_is
      ∙ ap (λ (x : Flow). let k : GoneConnection = record { id = e.value.id; flow = x; end = e.value.end; unread = e.value.unread } in k) flow_is) in
      ap (λ (b : Bool). left_with b slot g s) go
      ∙ (ap (λ (n : ℕ). left_with (is_let_go e.value) n g s) (sym slot_is) ∙ ap (λ (x : GoneConnection). left_with (is_let_go e.value) e.slot x s) gone_is)

rising_differ : (es : List DriverEntry) → AllPairs (λ d e. d.slot < e.slot) es → AllPairs (λ d e. d.slot ≢ e.slot) es
rising_differ es rising i j d less within same = let above = rising i j d less within in absurd (omega (arith, above, same))

pub one_fewer : (t : Table DriverConnection) (slot : ℕ) (e : DriverEntry) → IsTable t → entry_under t slot ≡ Some e
    → length (without t slot).entries + 1 ≡ length t.entries
one_fewer t slot e sound found =
    let here : DriverEntry → Bool = λ x. x.slot == slot in
    let place = find_place here t.entries e found in
    let within : place.0 < length t.entries = slice_get_within t.entries place.0 e place.1 in
    let at : get_or t.entries place.0 e ≡ e = get_or_from_slice_get t.entries place.0 e e place.1 in
    let passes : here (get_or t.entries place.0 e) ≡ true = ap here at ∙ found_passes here t.entries e found in
    let removed = removed_one here t.entries place.0 e (one_passes (λ (x : DriverEntry). x.slot) slot t.entries (rising_differ t.entries sound.rising)) within passes in
    let fewer = length-remove t.entries place.0 within in
    rw removed fewer

pub all_front : {X : Type 0} (P : X → Type 0) (xs : List X) (x : X) (ys : List X) → ys ≡ xs ++ x ∷ [] → All P ys → All P xs
all_front {X} P xs x ys is all k d lt =
    let whole : All P (xs ++ x ∷ []) = let Q : List X → Type 0 = λ zs. All P zs in subst Q is all in
    let longer : k < length (xs ++ x ∷ []) = omega (arith, length-append xs (x ∷ [])) in
    subst P (get_or_append_left xs (x ∷ []) d k lt) (whole k d longer)

pub last_of : {X : Type 0} (P : X → Type 0) (xs : List X) (x : X) (ys : List X) → ys ≡ xs ++ x ∷ [] → All P ys → P x
last_of {X} P xs x ys is all =
    let whole : All P (xs ++ x ∷ []) = let Q : List X → Type 0 = λ zs. All P zs in subst Q is all in
    subst P (get_or-append_seam xs x [] x) (whole (length xs) x (omega (arith, length-append xs (x ∷ []))))

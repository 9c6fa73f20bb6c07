-- What always holds of the slots after a change of the table.
use Rattle.std.proofs.Common.{◌≡◌, ℕ, zero, suc, ◌+◌, ◌<◌, ◌≤◌, ◌==◌, Bool, true, false, cond, not, List, ◌∷◌, [], ◌++◌, length, map, get_or, Option, Some, None, refl, sym, ap}
use Rattle.std.proofs.{Common.{subst, ◌∙◌, arith, length-append}, lemmas.{Bool.Decides.nat_tests, List.{get_or-map, length-map, get_or_append_left, Edits.length-remove}}}
use Rattle.std.{proofs.lemmas.{List.Elements.{All-filter, All-map, All-push, All-weaker, AllWithin-more}, Option.{get_or_from_slice_get, slice_get_within}}, specs.List.All}
use Rattle.std.specs.List.{AllPairs, AllWithin, filter, remove, slice_get}
use Rattle.vs_flow.specs.Table.{Table, IsTable, entry_of, entry_under, value_under, has_place, next_entry, slots, with_entry, with_value, without, revalued}
use Rattle.vs_flow.{specs.declared.flow.Flow.Flow, proofs.{Entries.{all_others, found_at, remove_at}, Lookups.find_place, Tables.{IsAccepted, revalued-slot, with_value_sound}}}
use Rattle.vs_device_parts.specs.{State.{DeviceConnection, DeviceEntry}, SlotFields.AreKept, declared.{slots.Slots.TheInside.Inside, notes.Note.Note, watch.Watch.Watch, service.Service.Service}}
use Rattle.vs_device_parts.{specs.{Noted.{note_of, renoted}, Watched.{AreWatched, IsWatched}, Served.IsServedSo}, proofs.Under.{none_under, under, value_of}}

-- what is known after one more thing was noted
module _ (w new : Watch) (still : (c : DeviceConnection) → IsWatched w c → IsWatched new c) (t : Table DeviceConnection) (all : AreWatched w t) where
  revalued_watched : (e : DeviceEntry) (d : DeviceConnection) (here : Bool) → IsWatched new d → IsWatched w e.value
      → IsWatched new (let x : DeviceEntry = cond here (record e { value = d }) e in x).value
  revalued_watched e d true noted old = noted
  revalued_watched e d false noted old = still e.value old

  pub watched_with_value : (slot : ℕ) (d : DeviceConnection) → IsWatched new d → AreWatched new (with_value t slot d)
  watched_with_value slot d noted =
      All-map (λ (e : DeviceEntry). IsWatched new e.value) (revalued slot d) t.entries
      (All-weaker (λ (e : DeviceEntry). IsWatched w e.value) (λ (e : DeviceEntry). IsWatched new (revalued slot d e).value)
      (λ e old. revalued_watched e d (e.slot == slot) noted old) t.entries all)

  pub watched_with_entry : (flow : Flow) (d : DeviceConnection) → IsWatched new d → AreWatched new (with_entry t flow d)
  watched_with_entry flow d noted =
      All-push (λ (e : DeviceEntry). IsWatched new e.value) t.entries (next_entry t flow d)
      (All-weaker (λ (e : DeviceEntry). IsWatched w e.value) (λ (e : DeviceEntry). IsWatched new e.value) (λ e old. still e.value old) t.entries all) noted

-- one more entry was looked at
pub watched_more : (w new : Watch) → ((c : DeviceConnection) → IsWatched w c → IsWatched new c) → (es : List DeviceEntry) (n : ℕ) (e : DeviceEntry)
    → IsWatched new e.value → slice_get es n ≡ Some e → AllWithin (λ x. IsWatched w x.value) es 0 n → AllWithin (λ x. IsWatched new x.value) es 0 (n + 1)
watched_more w new still es n e noted is so_far =
    let P : DeviceEntry → Type 0 = λ x. IsWatched new x.value in
    AllWithin-more P es 0 n (λ k d low lt. still (get_or es k d).value (so_far k d low lt)) (λ d. subst P (sym (get_or_from_slice_get es n e d is)) noted)

pub entry_within : (es : List DeviceEntry) (n : ℕ) (e : DeviceEntry) → slice_get es n ≡ Some e → n + 1 ≤ length es
entry_within es n e is = omega (arith, slice_get_within es n e is)

pub past_all : (es : List DeviceEntry) (n : ℕ) → slice_get es n ≡ None → length es ≤ n
past_all [] n none = omega arith
past_all (e ∷ es) zero none = absurd (cc)
past_all (e ∷ es) (suc n) none = omega (arith, past_all es n none)

-- all were
pub watched_all : (w : Watch) (es : List DeviceEntry) (n : ℕ) → length es ≤ n → AllWithin (λ x. IsWatched w x.value) es 0 n
    → All (λ x. IsWatched w x.value) es
watched_all w es n ends so_far = λ k d lt. so_far k d (omega arith) (omega arith)

pub watched_without : (w : Watch) (t : Table DeviceConnection) (slot : ℕ) → AreWatched w t → AreWatched w (without t slot)
watched_without w t slot all = All-filter (λ (e : DeviceEntry). not (e.slot == slot)) (λ (e : DeviceEntry). IsWatched w e.value) t.entries all

-- slots rise
pub slots_rise : (t : Table DeviceConnection) → IsTable t → AllPairs (λ j k. j < k) (slots t)
slots_rise t sound i j d lt within = by (slice_get t.entries i) refl
  where
    by : (o : Option DeviceEntry) → slice_get t.entries i ≡ o → get_or (slots t) i d < get_or (slots t) j d
    by None none = absurd (omega (arith, past_all t.entries i none, lt, within, length-map t.entries (λ (e : DeviceEntry). e.slot)))
    by (Some e) is =
        let long = length-map t.entries (λ (e : DeviceEntry). e.slot) in
        let here : i < length t.entries = omega (arith, lt, within, long) in
        let there : j < length t.entries = omega (arith, within, long) in
        omega (
          arith,
          get_or-map (λ (e : DeviceEntry). e.slot) t.entries i e d here,
          get_or-map (λ (e : DeviceEntry). e.slot) t.entries j e d there,
          sound.rising i j e lt there,
        )

-- the connection at a place stands under its slot
pub served_at : (t : Table DeviceConnection) (slot place : ℕ) (e : DeviceEntry) (service : Service) → IsTable t → slice_get t.entries place ≡ Some e
    → e.slot ≡ slot → IsServedSo (Some e.value) service → IsServedSo (value_under t slot) service
served_at t slot place e service sound is at served =
    let found : entry_under t e.slot ≡ Some e = found_at t.entries place e sound.rising is in
    let P : Option DeviceConnection → Type 0 = λ o. IsServedSo o service in
    subst P (sym (value_of t slot e (ap (λ (n : ℕ). entry_under t n) (sym at) ∙ found))) served

same_slots : (slot : ℕ) (d : DeviceConnection) (es : List DeviceEntry) → map (λ e. e.slot) (map (revalued slot d) es) ≡ map (λ e. e.slot) es
same_slots slot d [] = refl
same_slots slot d (e ∷ es) = rw (revalued-slot slot d e) (ap (λ (xs : List ℕ). e.slot ∷ xs) (same_slots slot d es))

-- each note is of the connection as it now is
noted_as : (slot : ℕ) (d : DeviceConnection) (e : DeviceEntry) (b : Bool) → (e.slot == slot) ≡ b
    → cond b (note_of slot d) (note_of e.slot e.value) ≡ (let x : DeviceEntry = cond b (record e { value = d }) e in note_of x.slot x.value)
noted_as slot d e true is = let same : e.slot ≡ slot = grind (arith, nat_tests, is) in ap (λ (n : ℕ). note_of n d) (sym same)
noted_as slot d e false is = refl

noted_all : (slot : ℕ) (d : DeviceConnection) (es : List DeviceEntry)
    → map (renoted (note_of slot d)) (map (λ e. note_of e.slot e.value) es) ≡ map (λ e. note_of e.slot e.value) (map (revalued slot d) es)
noted_all slot d [] = refl
noted_all slot d (e ∷ es) = λ i. noted_as slot d e (e.slot == slot) refl i ∷ noted_all slot d es i

pub kept_with_value : (s : Inside) (slot : ℕ) (d : DeviceConnection) (new : Watch) (notes : List Note) → AreKept s → IsWatched new d
    → ((c : DeviceConnection) → IsWatched s.watch c → IsWatched new c) → notes ≡ map (renoted (note_of slot d)) s.notes
    → AreKept (record s { table = with_value s.table slot d; watch = new; notes = notes })
kept_with_value s slot d new notes kept noted still put = record {
  table = with_value_sound s.table slot d kept.table;
  room = kept.room;
  buffers = omega (arith, kept.buffers, length-map s.table.entries (revalued slot d));
  buffer_room = kept.buffer_room;
  spare = kept.spare;
  order = kept.order ∙ sym (same_slots slot d s.table.entries);
  watched = watched_with_value s.watch new still s.table kept.watched slot d noted;
  notes = put ∙ ap (map (renoted (note_of slot d))) kept.notes ∙ noted_all slot d s.table.entries;
}

pub accepts : (t : Table DeviceConnection) (flow : Flow) → has_place t ≡ true → entry_of t flow ≡ None → IsAccepted t flow
accepts t flow free none = record { absent = none; place = grind (arith, nat_tests, free); slot = grind (arith, nat_tests, free) }

pub all_front : {X : Type 0} (P : X → Type 0) (xs : List X) (x : X) (ys : List X) → ys ≡ xs ++ x ∷ [] → All P ys → All P xs
all_front {X} P xs x ys is all k d lt =
    let whole : All P (xs ++ x ∷ []) = let Q : List X → Type 0 = λ zs. All P zs in subst Q is all in
    let longer : k < length (xs ++ x ∷ []) = omega (arith, length-append xs (x ∷ [])) in
    subst P (get_or_append_left xs (x ∷ []) d k lt) (whole k d longer)

pub none_leaves : (t : Table DeviceConnection) (slot : ℕ) → value_under t slot ≡ None → without t slot ≡ t
none_leaves t slot none =
    ap (λ (es : List DeviceEntry). let u : Table DeviceConnection = record t { entries = es } in u)
    (all_others t.entries slot (none_under t slot none))

pub one_fewer : (t : Table DeviceConnection) (slot : ℕ) (c : DeviceConnection) → IsTable t → value_under t slot ≡ Some c
    → length (without t slot).entries + 1 ≡ length t.entries
one_fewer t slot c sound is =
    let e = under t slot c is in
    let place = find_place (λ (x : DeviceEntry). x.slot == slot) t.entries e.entry e.found in
    let same : e.entry.slot ≡ slot = e.slot_is in
    let within : place.0 < length t.entries = slice_get_within t.entries place.0 e.entry place.1 in
    let removed : remove t.entries place.0 ≡ filter (λ (x : DeviceEntry). not (x.slot == slot)) t.entries =
    remove_at t.entries place.0 e.entry sound.rising place.1 ∙ ap (λ (n : ℕ). filter (λ (x : DeviceEntry). not (x.slot == n)) t.entries) same in
    let shorter = length-remove t.entries place.0 within in
    omega (arith, shorter, ap length removed)

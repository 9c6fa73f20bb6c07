-- The notes that are kept beside the table: what one says of its connection, and what putting another one changes.
use Rattle.std.proofs.Common.{◌≡◌, ℕ, zero, suc, ◌+◌, ◌<◌, ◌≤◌, ◌==◌, ◌++◌, set, take, drop, inl, inr, Bool, true, false, cond, not, is_some, List, [], ◌∷◌, length, map, get_or, Option, Some, None, Result, Ok, Err, refl, sym, ap}
use Rattle.std.proofs.{Common.{subst, ◌∙◌, arith}, lemmas.{Bool.Decides.nat_tests, Cmp.ranked, List.{get_or-map, length-map, take_more, Sums.position_or_len_is}}}
use Rattle.std.proofs.lemmas.Option.{get_or_from_slice_get, slice_get-map, slice_get_within}
use Rattle.std.proofs.Math.Seq.{take-append_seam, take-length}
use Rattle.std.specs.{List.{All, find, refill, position, slice_get, Sorted.{IsBinarySearchResult, IsSearchInRange}}, Option.{option_and_then, option_map, option_map_or}, Ordering.nat_cmp, Result.result_ok}
use Rattle.vs_conn.specs.{End.owes_of, declared.end.Owed.Owed}
use Rattle.vs_credit.specs.Credit.{free_of}
use Rattle.vs_flow.specs.Table.{Table, IsTable, entry_under, value_under}
use Rattle.vs_flow.proofs.Entries.{find_position, found_at, found_passes, none_found, position_within}
use Rattle.vs_device_parts.specs.{Noted.{AreRising, note_of, notes_of, renoted, service_of}, Receiving.may_read, Served.IsServedSo, Watched.has_to_write}
use Rattle.vs_device_parts.specs.{State.{DeviceConnection, DeviceEntry}, declared.{notes.Note.Note, service.Service.Service}}
use Rattle.vs_device_parts.proofs.SlotChanges.{served_at}
use Rattle.vs_device_parts.specs.declared.service.Service.TheVariants as service

abbrev note_at : DeviceEntry → Note
note_at e = note_of e.slot e.value

abbrev no_note : Note
no_note = record { slot = 0; service = service.Nothing; writes = false }

-- what a note says of its connection
served_by : (c : DeviceConnection) (o : Option Owed) (r f a : Bool) → owes_of c.end ≡ o → may_read c.end c.end.state ≡ r → (free_of c.end.credit == 0) ≡ f
    → c.end.credit_asked ≡ a → (let so : Service = cond f (cond a service.Nothing service.Owed) (service.Read c.stream (free_of c.end.credit)) in
    IsServedSo (Some c) (cond (is_some o) service.Owed (cond (not r) service.Nothing so)))
served_by c (Some what) r f a owes reads free asked = tt
served_by c None false f a owes reads free asked = record { owes = owes; reads_not = inl reads }
served_by c None true true true owes reads free asked = record { owes = owes; reads_not = inr (record { none = grind (arith, nat_tests, free); asked = asked }) }
served_by c None true true false owes reads free asked = tt
served_by c None true false a owes reads free asked =
    record { owes = owes; reads = record { reads = reads; some = grind (arith, nat_tests, free); stream_is = refl; credit_is = refl } }

served_so : (c : DeviceConnection) → IsServedSo (Some c) (service_of c)
served_so c = served_by c (owes_of c.end) (may_read c.end c.end.state) (free_of c.end.credit == 0) c.end.credit_asked refl refl refl refl

-- the entry of which a note is
record IsOf (t : Table DeviceConnection) (place : ℕ) (n : Note) : Type 0 where
  entry : DeviceEntry
  at : slice_get t.entries place ≡ Some entry
  is : note_at entry ≡ n

of_entry : (t : Table DeviceConnection) (place : ℕ) (n : Note) (o : Option DeviceEntry) → slice_get t.entries place ≡ o → option_map note_at o ≡ Some n → IsOf t place n
of_entry t place n None at noted = absurd (cc)
of_entry t place n (Some e) at noted = record { entry = e; at = at; is = cc }

noted : (t : Table DeviceConnection) (place : ℕ) (n : Note) → slice_get (notes_of t) place ≡ Some n → IsOf t place n
noted t place n at = of_entry t place n (slice_get t.entries place) refl (sym (slice_get-map note_at t.entries place) ∙ at)

pub served_as_noted : (t : Table DeviceConnection) (slot place : ℕ) (n : Note) → IsTable t → slice_get (notes_of t) place ≡ Some n → n.slot ≡ slot
    → IsServedSo (value_under t slot) n.service
served_as_noted t slot place n sound at same =
    let e = noted t place n at in
    let P : Note → Type 0 = λ m. IsServedSo (Some e.entry.value) m.service in
    served_at t slot place e.entry n.service sound e.at (ap (λ m. m.slot) e.is ∙ same) (subst P e.is (served_so e.entry.value))

pub writes_as_noted : (t : Table DeviceConnection) (slot place : ℕ) (n : Note) → IsTable t → slice_get (notes_of t) place ≡ Some n → n.slot ≡ slot
    → n.writes ≡ option_map_or (λ e. has_to_write e.value) (entry_under t slot) false
writes_as_noted t slot place n sound at same =
    let e = noted t place n at in
    let found : entry_under t e.entry.slot ≡ Some e.entry = found_at t.entries place e.entry sound.rising e.at in
    let here : entry_under t slot ≡ Some e.entry = ap (λ (m : ℕ). entry_under t m) (sym (ap (λ m. m.slot) e.is ∙ same)) ∙ found in
    rw here (sym (ap (λ m. m.writes) e.is))

past : {X : Type 0} (xs : List X) (n : ℕ) → slice_get xs n ≡ None → length xs ≤ n
past [] n none = omega arith
past (x ∷ xs) zero none = absurd (cc)
past (x ∷ xs) (suc n) none = omega (arith, past xs n none)

-- the notes of a table, one after the other
pub next_noted : (es : List DeviceEntry) (n : ℕ) (e : DeviceEntry) → slice_get es n ≡ Some e
    → take (n + 1) (map note_at es) ≡ take n (map note_at es) ++ note_at e ∷ []
next_noted es n e at =
    let within : n < length es = slice_get_within es n e at in
    let longer : n < length (map note_at es) = omega (arith, within, length-map es note_at) in
    take_more (map note_at es) n (note_at e) longer
    ∙ ap (λ (m : Note). take n (map note_at es) ++ m ∷ [])
    (get_or-map note_at es n e (note_at e) within ∙ ap note_at (get_or_from_slice_get es n e e at))

pub noted_within : (t : Table DeviceConnection) (n : ℕ) (e : DeviceEntry) → slice_get t.entries n ≡ Some e → n + 1 ≤ length (notes_of t)
noted_within t n e at = omega (arith, slice_get_within t.entries n e at, length-map t.entries note_at)

pub all_noted : (t : Table DeviceConnection) (n : ℕ) (ns : List Note) → ns ≡ take n (notes_of t) → n ≤ length (notes_of t) → slice_get t.entries n ≡ None
    → ns ≡ notes_of t
all_noted t n ns so_far within none =
    let ends : n ≡ length (notes_of t) = omega (arith, within, past t.entries n none, length-map t.entries note_at) in
    so_far ∙ ap (λ (k : ℕ). take k (notes_of t)) ends ∙ take-length (notes_of t)

-- slots rise
pub notes_rise : (t : Table DeviceConnection) → IsTable t → AreRising (notes_of t)
notes_rise t sound i j d lt within = by (slice_get t.entries i) refl
  where
    by : (o : Option DeviceEntry) → slice_get t.entries i ≡ o → (get_or (notes_of t) i d).slot < (get_or (notes_of t) j d).slot
    by None none = absurd (omega (arith, past t.entries i none, lt, within, length-map t.entries note_at))
    by (Some e) is =
        let long = length-map t.entries note_at in
        let here : i < length t.entries = omega (arith, lt, within, long) in
        let there : j < length t.entries = omega (arith, within, long) in
        omega (
          arith,
          ap (λ (m : Note). m.slot) (get_or-map note_at t.entries i e d here),
          ap (λ (m : Note). m.slot) (get_or-map note_at t.entries j e d there),
          sound.rising i j e lt there,
        )

renoted-slot : (new n : Note) → (renoted new n).slot ≡ n.slot
renoted-slot new n = by (n.slot == new.slot) refl
  where
    by : (b : Bool) → (n.slot == new.slot) ≡ b → (cond b new n).slot ≡ n.slot
    by true is = grind (arith, nat_tests, is)
    by false is = refl

renoted_rise : (new : Note) (ns : List Note) → AreRising ns → AreRising (map (renoted new) ns)
renoted_rise new ns rising i j d lt within =
    let long = length-map ns (renoted new) in
    let here : i < length ns = omega (arith, lt, within, long) in
    let there : j < length ns = omega (arith, within, long) in
    omega (
      arith,
      ap (λ (m : Note). m.slot) (get_or-map (renoted new) ns i d d here),
      ap (λ (m : Note). m.slot) (get_or-map (renoted new) ns j d d there),
      renoted-slot new (get_or ns i d),
      renoted-slot new (get_or ns j d),
      rising i j d lt there,
    )

-- what is written back into as many places is all that is there
refilled : (xs ws : List Note) → length ws ≡ length xs → refill (length xs) xs ws ≡ ws
refilled xs ws same = subst (λ (n : ℕ). take n (ws ++ drop (length ws) xs) ≡ ws) same (take-append_seam ws (drop (length ws) xs))

-- a note is put in the place of the one of its slot
none_same : (new : Note) (ns : List Note) → All (λ n. (n.slot == new.slot) ≡ false) ns → map (renoted new) ns ≡ ns
none_same new [] none = refl
none_same new (n ∷ ns) none =
    rw (none 0 n (omega arith)) (ap (λ (ms : List Note). n ∷ ms) (none_same new ns (λ k d lt. none (suc k) d (omega arith))))

pub none_put : (new : Note) (ns : List Note) → None ≡ position (λ n. n.slot == new.slot) ns → ns ≡ map (renoted new) ns
none_put new ns none =
    let test : Note → Bool = λ n. n.slot == new.slot in
    let found : find test ns ≡ None = sym (find_position test ns) ∙ ap (option_and_then (slice_get ns)) (sym none) in
    sym (none_same new ns (none_found test ns found))

rest_rises : (n : Note) (ns : List Note) → AreRising (n ∷ ns) → AreRising ns
rest_rises n ns rising i j d lt within = rising (suc i) (suc j) d (omega arith) (omega arith)

set_same : (new : Note) (ns : List Note) (p : ℕ) (x : Note) → AreRising ns → slice_get ns p ≡ Some x → x.slot ≡ new.slot → set ns p new ≡ map (renoted new) ns
set_same new [] p x rising at same = absurd (cc)
set_same new (n ∷ ns) zero x rising at same =
    let here : n.slot ≡ new.slot = cc in
    let holds : (n.slot == new.slot) ≡ true = grind (arith, nat_tests, here) in
    let others : All (λ m. (m.slot == new.slot) ≡ false) ns =
    λ k d lt. let above = rising 0 (suc k) d (omega arith) (omega arith) in grind (arith, nat_tests, above, here) in
    rw holds (ap (λ (ms : List Note). new ∷ ms) (sym (none_same new ns others)))
set_same new (n ∷ ns) (suc p) x rising at same =
    let within : p < length ns = slice_get_within ns p x at in
    let above : n.slot < (get_or ns p x).slot = rising 0 (suc p) x (omega arith) (omega arith) in
    let is : (get_or ns p x).slot ≡ x.slot = ap (λ (m : Note). m.slot) (get_or_from_slice_get ns p x x at) in
    let differs : (n.slot == new.slot) ≡ false = grind (arith, nat_tests, above, is, same) in
    rw differs (ap (λ (ms : List Note). n ∷ ms) (set_same new ns p x (rest_rises n ns rising) at same))

put_by : (new : Note) (ns : List Note) (p : ℕ) (o : Option Note) → AreRising ns → p < length ns → slice_get ns p ≡ o → o ≡ find (λ n. n.slot == new.slot) ns
    → set ns p new ≡ map (renoted new) ns
put_by new ns p None rising within at found = absurd (omega (arith, within, past ns p at))
put_by new ns p (Some x) rising within at found =
    let passes = found_passes (λ (n : Note). n.slot == new.slot) ns x (sym found) in
    set_same new ns p x rising at (grind (arith, nat_tests, passes))

pub put_there : (new : Note) (ns : List Note) (p : ℕ) → AreRising ns → Some p ≡ position (λ n. n.slot == new.slot) ns → set ns p new ≡ map (renoted new) ns
put_there new ns p rising is =
    let test : Note → Bool = λ n. n.slot == new.slot in
    put_by new ns p (slice_get ns p) rising (position_within test ns p (sym is)) refl
    (ap (option_and_then (slice_get ns)) is ∙ find_position test ns)

pub written_rise : (new : Note) (old ns : List Note) → AreRising old → ns ≡ map (renoted new) old → AreRising (refill (length old) old ns)
written_rise new old ns rising put =
    let P : List Note → Type 0 = λ ms. AreRising ms in
    let long : length ns ≡ length old = ap length put ∙ length-map old (renoted new) in
    subst P (sym (refilled old ns long ∙ put)) (renoted_rise new old rising)

-- where a slot stands among slots that rise is its place
stands_at : (ns : List Note) (slot i : ℕ) → AreRising ns → i < length ns → (get_or ns i no_note).slot ≡ slot → Some i ≡ position (λ n. n.slot == slot) ns
stands_at ns slot i rising within here =
    let first = position_or_len_is (λ (n : Note). n.slot == slot) ns i no_note (omega arith)
    (λ k lt. let below = rising k i no_note lt within in grind (arith, nat_tests, below, here)) (λ lt. grind (arith, nat_tests, here)) in
    rw first (grind (arith, nat_tests, within))

seen_by : (ns : List Note) (slot i : ℕ) → AreRising ns → (o : Option Note) → slice_get ns i ≡ o → option_map (λ n. n.slot) o ≡ Some slot
    → Some i ≡ position (λ n. n.slot == slot) ns
seen_by ns slot i rising None at seen = absurd (cc)
seen_by ns slot i rising (Some n) at seen =
    let is_slot : n.slot ≡ slot = cc in
    stands_at ns slot i rising (slice_get_within ns i n at) (ap (λ (m : Note). m.slot) (get_or_from_slice_get ns i n no_note at) ∙ is_slot)

pub seen_at : (ns : List Note) (slot i : ℕ) → AreRising ns → option_map (λ n. n.slot) (slice_get ns i) ≡ Some slot → Some i ≡ position (λ n. n.slot == slot) ns
seen_at ns slot i rising = seen_by ns slot i rising (slice_get ns i) refl

-- a binary search finds it
pub searched : (ns : List Note) (slot : ℕ) (r : Result ℕ ℕ) → AreRising ns → IsSearchInRange r (length ns)
    → IsBinarySearchResult (λ n. nat_cmp n.slot slot) ns r → result_ok r ≡ position (λ n. n.slot == slot) ns
searched ns slot (Ok i) rising within equal = stands_at ns slot i rising within (ranked _ slot _ (sym (equal no_note)))
searched ns slot (Err i) rising within parted =
    let halves = parted (λ j k d le lt. grind (arith, nat_tests, rising j k d, λ (same : j ≡ k). ap (λ (n : ℕ). (get_or ns n d).slot) same)) in
    let none = position_or_len_is (λ (n : Note). n.slot == slot) ns (length ns) no_note (omega arith)
    (λ k lt. grind (arith, nat_tests, halves.0 k no_note (omega arith), halves.1 k no_note, lt)) (λ lt. absurd (omega arith)) in
    rw none (grind (arith, nat_tests))

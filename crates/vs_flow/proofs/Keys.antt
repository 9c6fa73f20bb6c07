-- Slots whose keys lead to entries: what is found by a slot and by a place, and what insertions, removals and writes leave.
use Rattle.std.proofs.lemmas.Grind.{common_steps}
use Rattle.std.proofs.lemmas.{Bool.Decides.nat_tests, List.{Edits.length-remove, Elements.{All-cons, All-map}, Folds.map_fixed, append_assoc, Kept.AllPairs-cons, Sums.sum_by-set}}
use Rattle.std.proofs.{lemmas.Option.{slice_get_within, slice_get_cases, slice_get_read}, Math.{ListN.get_or-append, Seq.get_or-append_seam}, Common.{◌≡◌, ◌≢◌, ℕ, zero, suc, ◌+◌}}
use Rattle.std.proofs.Common.{◌<◌, ◌≤◌, Bool, false, not, cond, ◌==◌, List, [], ◌∷◌, ◌++◌, length, map, get_or, Option, Some, None, is_some, inl, inr, refl, ap, sym, subst, ◌∙◌}
use Rattle.std.{proofs.Common.{arith, length-append}, specs.{List.{All, AllPairs, AllWithin, find, filter, position, position_or_len, remove, slice_get}, Map.lookup}}
use Rattle.std.specs.Option.{option_and_then}
use Rattle.indexmap.{specs.IndexMap.insert_entry, proofs.MapLemmas.{absent_from_lookup, insert_entry-absent}}
use Rattle.slab.{specs.Slab.{ContainsKey, Slab, Updates, get, slab_len, with_value}, proofs.SlabLemmas.{ContainsKey-within, Updates-with_value}}
use Rattle.vs_flow.specs.{declared.{flow.Flow.Flow, table.Entry.Entry}, Flow.same_flow, Entries.{entries_of, slots_by_flow, AreLedTo}, Table.{IsRising, revalued}}
use Rattle.vs_flow.proofs.{Entries.{All_at, above_head, find_position, found_passes, position_within, remove_at, rising_tail, same_flow_false}, Lookups.others_differ}
use Rattle.vs_flow.proofs.Lookups.{tail_distinct}

module _ {T : Type 0} (under : ℕ → Option (Entry T)) where
  pub led_is : (keys : List (ℕ × ℕ)) (es : List (Entry T)) → AreLedTo under keys es → entries_of under keys ≡ es
  led_is [] [] l = refl
  led_is [] (e ∷ es) l = absurd l
  led_is (k ∷ keys) [] l = absurd l
  led_is (k ∷ keys) (e ∷ es) l = rw l.0.0 (ap (λ xs. e ∷ xs) (led_is keys es l.1))

  -- by a place
  pub led_at : (place : ℕ) (keys : List (ℕ × ℕ)) (es : List (Entry T)) → AreLedTo under keys es
      → option_and_then (λ k. under k.1) (slice_get keys place) ≡ slice_get es place
  led_at place [] [] l = refl
  led_at place [] (e ∷ es) l = absurd l
  led_at place (k ∷ keys) [] l = absurd l
  led_at zero (k ∷ keys) (e ∷ es) l = l.0.0
  led_at (suc place) (k ∷ keys) (e ∷ es) l = led_at place keys es l.1

  pub led_long : (keys : List (ℕ × ℕ)) (es : List (Entry T)) → AreLedTo under keys es → length keys ≡ length es
  led_long [] [] l = refl
  led_long [] (e ∷ es) l = absurd l
  led_long (k ∷ keys) [] l = absurd l
  led_long (k ∷ keys) (e ∷ es) l = ap suc (led_long keys es l.1)

  -- a search by slot
  pub led_position : (slot : ℕ) (keys : List (ℕ × ℕ)) (es : List (Entry T)) → AreLedTo under keys es
      → position (λ k. k.0 == slot) keys ≡ position (λ e. e.slot == slot) es
  led_position slot keys es l = rw (led_long keys es l, first keys es l) refl
    where
      first : (ks : List (ℕ × ℕ)) (ds : List (Entry T)) → AreLedTo under ks ds
          → position_or_len (λ k. k.0 == slot) ks ≡ position_or_len (λ e. e.slot == slot) ds
      first [] [] l = refl
      first [] (d ∷ ds) l = absurd l
      first (k ∷ ks) [] l = absurd l
      first (k ∷ ks) (d ∷ ds) l = let rest = first ks ds l.1 in grind (arith, nat_tests, l.0.1, rest)

  pub slots_rise : (keys : List (ℕ × ℕ)) (es : List (Entry T)) → AreLedTo under keys es → IsRising es → AllPairs (λ j k. j.0 < k.0) keys
  slots_rise [] [] l rising = λ i j d lt within. absurd (omega (arith, within))
  slots_rise [] (e ∷ es) l rising = absurd l
  slots_rise (k ∷ keys) [] l rising = absurd l
  slots_rise (k ∷ keys) (e ∷ es) l rising =
      AllPairs-cons (λ (a b : ℕ × ℕ). a.0 < b.0) k keys (above keys es l.1 (above_head e es rising))
      (slots_rise keys es l.1 (rising_tail e es rising))
    where
      above : (ks : List (ℕ × ℕ)) (ds : List (Entry T)) → AreLedTo under ks ds → All (λ d. e.slot < d.slot) ds → All (λ b. k.0 < b.0) ks
      above [] ds led far = λ i d within. absurd (omega (arith, within))
      above (b ∷ ks) [] led far = absurd led
      above (b ∷ ks) (d ∷ ds) led far =
          All-cons (λ (b : ℕ × ℕ). k.0 < b.0) b ks (let here = far 0 d (omega arith) in omega (arith, here, l.0.1, led.0.1))
          (above ks ds led.1 (λ i y lt. far (suc i) y (omega arith)))

  led_slot : (keys : List (ℕ × ℕ)) (es : List (Entry T)) → AreLedTo under keys es → (k : ℕ) (b : ℕ × ℕ) (d : Entry T) → k < length es
      → (get_or keys k b).0 ≡ (get_or es k d).slot
  led_slot [] [] l k b d within = absurd (omega (arith, within))
  led_slot [] (e ∷ es) l k b d within = absurd l
  led_slot (a ∷ keys) [] l k b d within = absurd l
  led_slot (a ∷ keys) (e ∷ es) l zero b d within = sym l.0.1
  led_slot (a ∷ keys) (e ∷ es) l (suc k) b d within = led_slot keys es l.1 k b d (omega (arith, within))

  -- what holds of these slots holds of their entries' slots
  pub led_within : (P : ℕ → Type 0) (keys : List (ℕ × ℕ)) (es : List (Entry T)) (low high : ℕ) → AreLedTo under keys es → high ≤ length es
      → AllWithin (λ k. P k.0) keys low high → AllWithin (λ e. P e.slot) es low high
  led_within P keys es low high l le all k d from to =
      subst P (led_slot keys es l k (0, 0) d (omega (arith, le, to))) (all k (0, 0) from to)

  -- the first of some slots, and its entry
  pub record IsNextOf (k : ℕ × ℕ) (rest : List (ℕ × ℕ)) (e : Entry T) : Type 0 where
    pub at : under k.1 ≡ Some e
    pub slot_is : e.slot ≡ k.0
    pub all : entries_of under (k ∷ rest) ≡ e ∷ entries_of under rest
    pub led : AreLedTo under rest (entries_of under rest)

  pub led_next : (k : ℕ × ℕ) (rest : List (ℕ × ℕ)) (es : List (Entry T)) → AreLedTo under (k ∷ rest) es → (e : Entry T) × IsNextOf k rest e
  led_next k rest [] l = absurd l
  led_next k rest (e ∷ es) l = (
    e,
    record {
      at = l.0.0;
      slot_is = l.0.1;
      all = rw l.0.0 (ap (λ xs. e ∷ xs) refl);
      led = rw (led_is rest es l.1) l.1;
    },
  )

  module _ (after : ℕ → Option (Entry T)) where
    pub led_after : ((key : ℕ) (e : Entry T) → under key ≡ Some e → after key ≡ Some e)
        → (keys : List (ℕ × ℕ)) (es : List (Entry T)) → AreLedTo under keys es → AreLedTo after keys es
    led_after same [] [] l = tt
    led_after same [] (e ∷ es) l = absurd l
    led_after same (k ∷ keys) [] l = absurd l
    led_after same (k ∷ keys) (e ∷ es) l = ((same k.1 e l.0.0, l.0.1), led_after same keys es l.1)

    module _ (slot : ℕ) (others : (key : ℕ) (e : Entry T) → under key ≡ Some e → e.slot ≢ slot → after key ≡ Some e) where
      -- where no entry has the slot
      pub led_apart : (keys : List (ℕ × ℕ)) (es : List (Entry T)) → All (λ e. slot < e.slot) es → AreLedTo under keys es → AreLedTo after keys es
      led_apart [] [] above l = tt
      led_apart [] (e ∷ es) above l = absurd l
      led_apart (k ∷ keys) [] above l = absurd l
      led_apart (k ∷ keys) (e ∷ es) above l = (
        (others k.1 e l.0.0 (let here = above 0 e (omega arith) in omega arith), l.0.1),
        led_apart keys es (λ i d lt. above (suc i) d (omega arith)) l.1,
      )

      -- where the entry that has it goes
      pub led_without : (place : ℕ) (x : Entry T) (keys : List (ℕ × ℕ)) (es : List (Entry T)) → AreLedTo under keys es → IsRising es
          → slice_get es place ≡ Some x → x.slot ≡ slot → AreLedTo after (remove keys place) (remove es place)
      led_without place x [] [] l rising there is = absurd (cc)
      led_without place x [] (e ∷ es) l rising there is = absurd l
      led_without place x (k ∷ keys) [] l rising there is = absurd l
      led_without zero x (k ∷ keys) (e ∷ es) l rising there is =
          let one : e ≡ x = cc in
          led_apart keys es (subst (λ n. All (λ d. n < d.slot) es) (ap (λ (d : Entry T). d.slot) one ∙ is) (above_head e es rising)) l.1
      led_without (suc place) x (k ∷ keys) (e ∷ es) l rising there is =
          let above : e.slot < x.slot = All_at (λ d. e.slot < d.slot) es place x (above_head e es rising) there in
          ((others k.1 e l.0.0 (omega (arith, above, is)), l.0.1), led_without place x keys es l.1 (rising_tail e es rising) there is)

-- the keys that lead to a slab's entries
module _ {T : Type 0} (slab : Slab (Entry T)) where
  -- the key and the entry at the place of a slot
  pub record IsKeyOf (keys : List (ℕ × ℕ)) (es : List (Entry T)) (slot place : ℕ) (k : ℕ × ℕ) (x : Entry T) : Type 0 where
    pub key_at : slice_get keys place ≡ Some k
    pub there : slice_get es place ≡ Some x
    pub at : get slab k.1 ≡ Some x
    pub slot_is : x.slot ≡ slot
    pub found : find (λ e. e.slot == slot) es ≡ Some x

  pub key_found : (slot place : ℕ) (k : ℕ × ℕ) (keys : List (ℕ × ℕ)) (es : List (Entry T)) → AreLedTo (get slab) keys es
      → position (λ e. e.slot == slot) es ≡ Some place → k ≡ get_or keys place k → (x : Entry T) × IsKeyOf keys es slot place k x
  key_found slot place k keys es led is here =
      let has : Entry T → Bool = λ e. e.slot == slot in
      let within : place < length keys = omega (arith, led_long (get slab) keys es led, position_within has es place is) in
      let key_at : slice_get keys place ≡ Some k = slice_get_read keys (length keys) place k refl within here in
      let same : get slab k.1 ≡ slice_get es place =
      ap (option_and_then (λ j. get slab j.1)) (sym key_at) ∙ led_at (get slab) place keys es led in
      let first : find has es ≡ slice_get es place = sym (find_position has es) ∙ ap (option_and_then (slice_get es)) is in
      elim (slice_get_cases es place).1 [
        | inl h ↦
            let found = first ∙ h.2 in
            let passes = found_passes has es h.0 found in
            (h.0, record { key_at = key_at; there = h.2; at = same ∙ h.2; slot_is = grind (arith, nat_tests, passes); found = found })
        | inr h ↦ absurd (omega (arith, h.0, position_within has es place is))
      ]

  pub key_of : (slot place : ℕ) (k : ℕ × ℕ) (x : Entry T) (keys : List (ℕ × ℕ)) (es : List (Entry T)) → AreLedTo (get slab) keys es
      → position (λ e. e.slot == slot) es ≡ Some place → k ≡ get_or keys place k → get slab k.1 ≡ Some x
      → IsKeyOf keys es slot place k x
  key_of slot place k x keys es led is here at = grind (arith, common_steps, key_found)

module _ {T : Type 0} (old new : Slab (Entry T)) where
  -- of an entry that is added
  pub led_added : (keys : List (ℕ × ℕ)) (es : List (Entry T)) (key : ℕ) (x : Entry T) → AreLedTo (get old) keys es → get old key ≡ None
      → Updates old new key (Some x) → AreLedTo (get new) (keys ++ (x.slot, key) ∷ []) (es ++ x ∷ [])
  led_added keys es key x led vacant updates =
      pushed keys es (led_after (get old) (get new)
      (λ k e at. updates.others k (λ same. grind (arith, at, vacant, ap (get old) same)) ∙ at) keys es led)
    where
      pushed : (ks : List (ℕ × ℕ)) (ds : List (Entry T)) → AreLedTo (get new) ks ds
          → AreLedTo (get new) (ks ++ (x.slot, key) ∷ []) (ds ++ x ∷ [])
      pushed [] [] l = ((updates.changed, refl), tt)
      pushed [] (d ∷ ds) l = absurd l
      pushed (k ∷ ks) [] l = absurd l
      pushed (k ∷ ks) (d ∷ ds) l = (l.0, pushed ks ds l.1)

  -- where the entry at one key changes, those of other slots stay
  others_stay : (key : ℕ) (x : Entry T) (o : Option (Entry T)) → get old key ≡ Some x → Updates old new key o
      → (k : ℕ) (e : Entry T) → get old k ≡ Some e → e.slot ≢ x.slot → get new k ≡ Some e
  others_stay key x o at updates k e here differs = grind (arith, common_steps)

  -- of an entry that is removed
  pub record IsWithout (es : List (Entry T)) (slot : ℕ) (rest : List (ℕ × ℕ)) : Type 0 where
    pub led : AreLedTo (get new) rest (entries_of (get new) rest)
    pub left : entries_of (get new) rest ≡ filter (λ e. not (e.slot == slot)) es
    pub one_less : length rest + 1 ≡ length es

  pub led_removed : (keys : List (ℕ × ℕ)) (es : List (Entry T)) (slot place : ℕ) (k : ℕ × ℕ) (x : Entry T)
      → AreLedTo (get old) keys es → IsRising es → IsKeyOf old keys es slot place k x → Updates old new k.1 None → IsWithout es slot (remove keys place)
  led_removed keys es slot place k x led rising is updates =
      let still = led_without (get old) (get new) x.slot (others_stay k.1 x None is.at updates) place x keys es led rising is.there refl in
      let left = led_is (get new) (remove keys place) (remove es place) still in
      record {
        led = subst (AreLedTo (get new) (remove keys place)) (sym left) still;
        left = left ∙ subst (λ n. remove es place ≡ filter (λ e. not (e.slot == n)) es) is.slot_is (remove_at es place x rising is.there);
        one_less = omega (
          arith,
          led_long (get new) (remove keys place) (remove es place) still,
          length-remove es place (slice_get_within es place x is.there),
        );
      }

  -- of an entry whose value is written
  written : (place : ℕ) (k : ℕ × ℕ) (x : Entry T) (w : T) (keys : List (ℕ × ℕ)) (es : List (Entry T)) → AreLedTo (get old) keys es
      → IsRising es → slice_get keys place ≡ Some k → slice_get es place ≡ Some x → get old k.1 ≡ Some x
      → Updates old new k.1 (Some (record x { value = w })) → AreLedTo (get new) keys (map (revalued x.slot w) es)
  written place k x w [] [] led rising key_at there at updates = tt
  written place k x w [] (e ∷ es) led rising key_at there at updates = absurd led
  written place k x w (j ∷ keys) [] led rising key_at there at updates = absurd led
  written zero k x w (j ∷ keys) (e ∷ es) led rising key_at there at updates =
      let same : j ≡ k = cc in
      let one : e ≡ x = cc in
      let slot : e.slot ≡ x.slot = ap (λ (d : Entry T). d.slot) one in
      let above = above_head e es rising in
      let rest : map (revalued x.slot w) es ≡ es =
      map_fixed (revalued x.slot w) es (λ i d lt. let far = above i d lt in grind (arith, nat_tests, far, slot)) in
      rw rest (
        (ap (λ (i : ℕ × ℕ). get new i.1) same ∙ updates.changed ∙ grind (arith, nat_tests, one, slot), grind (arith, nat_tests, led.0.1, slot)),
        led_apart (get old) (get new) x.slot (others_stay k.1 x (Some (record x { value = w })) at updates) keys es
            (λ i d lt. let far = above i d lt in omega (arith, far, slot)) led.1,
      )
  written (suc place) k x w (j ∷ keys) (e ∷ es) led rising key_at there at updates =
      let above : e.slot < x.slot = All_at (λ d. e.slot < d.slot) es place x (above_head e es rising) there in
      let apart : e.slot ≢ x.slot = omega (arith, above) in (
        (
          others_stay k.1 x (Some (record x { value = w })) at updates j.1 e led.0.0 apart ∙ grind (arith, nat_tests, apart),
          grind (arith, nat_tests, apart, led.0.1),
        ),
        written place k x w keys es led.1 (rising_tail e es rising) key_at there at updates,
      )

  pub led_written : (keys : List (ℕ × ℕ)) (es : List (Entry T)) (slot place : ℕ) (k : ℕ × ℕ) (x : Entry T) (w : T)
      → AreLedTo (get old) keys es → IsRising es → IsKeyOf old keys es slot place k x → Updates old new k.1 (Some (record x { value = w }))
      → AreLedTo (get new) keys (map (revalued slot w) es)
  led_written keys es slot place k x w led rising is updates = grind (arith, common_steps, get, written)

module _ {T : Type 0} where
  -- the entry under a slot's key, to write a value to
  pub record IsWritable (slab : Slab (Entry T)) (keys : List (ℕ × ℕ)) (es : List (Entry T)) (slot key : ℕ) (x : Entry T) : Type 0 where
    pub found : find (λ e. e.slot == slot) es ≡ Some x
    pub led : (w : T) → AreLedTo (get (with_value slab key (record x { value = w }))) keys (map (revalued slot w) es)
    pub left : (w : T) → entries_of (get (with_value slab key (record x { value = w }))) keys ≡ map (revalued slot w) es
    pub count : (w : T) → slab_len (with_value slab key (record x { value = w })) ≡ slab_len slab

  pub writable : (slab : Slab (Entry T)) (keys : List (ℕ × ℕ)) (es : List (Entry T)) (slot place : ℕ) (k : ℕ × ℕ) (x : Entry T)
      → AreLedTo (get slab) keys es → IsRising es → position (λ e. e.slot == slot) es ≡ Some place → k ≡ get_or keys place k
      → get slab k.1 ≡ Some x → IsWritable slab keys es slot k.1 x
  writable slab keys es slot place k x led rising first here at =
      let is = key_of slab slot place k x keys es led first here at in
      let there : ContainsKey slab k.1 = rw at refl in
      let led_then : (w : T) → AreLedTo (get (with_value slab k.1 (record x { value = w }))) keys (map (revalued slot w) es) =
      λ w. led_written slab (with_value slab k.1 (record x { value = w })) keys es slot place k x w led rising is
      (Updates-with_value slab k.1 (record x { value = w }) there) in
      record {
        found = is.found;
        led = led_then;
        left = λ w. led_is _ keys _ (led_then w);
        count = λ w. let sums = sum_by-set (λ (o : Option (Entry T)). cond (is_some o) 1 0) slab.slots k.1 (Some (record x { value = w })) None
            (ContainsKey-within slab k.1 there) in
            omega (arith, sums, ap {B = ℕ} (λ (o : Option (Entry T)). cond (is_some o) 1 0) at);
      }

-- the key of an entry that comes next is a new one where no two are alike
module _ {K V : Type 0} (eq : K → K → Bool) where
  before_seam : (R : K × V → K × V → Type 0) (done rest : List (K × V)) (x : K × V) → AllPairs R (done ++ x ∷ rest) → All (λ d. R d x) done
  before_seam R done rest x pairs i d lt =
      let whole = pairs i (length done) d lt (omega (arith, length-append done (x ∷ rest))) in
      rw (get_or-append done (x ∷ rest) d i lt, get_or-append_seam done x rest d) at whole

  none_alike : (k : K) (done : List (K × V)) → All (λ d. eq k d.0 ≡ false) done → lookup (eq k) done ≡ None
  none_alike k [] apart = refl
  none_alike k (d ∷ done) apart =
      rw (apart 0 d (omega arith)) (none_alike k done (λ i e lt. apart (suc i) e (omega arith)))

  -- a pair that is inserted behind those before it
  pub record IsNextPair (done rest all : List (K × V)) (k : K) (v : V) : Type 0 where
    pub within : length done < length all
    pub long : length (insert_entry eq done k v) ≡ length done + 1
    pub seam : insert_entry eq done k v ++ rest ≡ all

  pub next_pair : (done rest all : List (K × V)) (k : K) (v : V) → done ++ (k, v) ∷ rest ≡ all → AllPairs (λ a b. eq b.0 a.0 ≡ false) all
      → IsNextPair done rest all k v
  next_pair done rest all k v seam apart =
      let alone = none_alike k done (before_seam (λ a b. eq b.0 a.0 ≡ false) done rest (k, v)
      (subst (AllPairs (λ a b. eq b.0 a.0 ≡ false)) (sym seam) apart)) in
      let put = insert_entry-absent eq k v done (absent_from_lookup (eq k) done alone) in
      record {
        within = omega (arith, length-append done ((k, v) ∷ rest), ap length seam);
        long = omega (arith, ap length put, length-append done ((k, v) ∷ []));
        seam = ap (λ xs. xs ++ rest) put ∙ append_assoc done ((k, v) ∷ []) rest ∙ seam;
      }

module _ {T : Type 0} where
  -- flows of which no two are alike are apart
  pub flows_apart : (es : List (Entry T)) → AllPairs (λ d e. d.flow ≢ e.flow) es
      → AllPairs (λ a b. same_flow b.0 a.0 ≡ false) (slots_by_flow es)
  flows_apart [] distinct = λ i j d lt within. absurd (omega (arith, within))
  flows_apart (e ∷ es) distinct =
      AllPairs-cons (λ (a b : Flow × ℕ). same_flow b.0 a.0 ≡ false) (e.flow, e.slot) (slots_by_flow es)
      (All-map (λ (b : Flow × ℕ). same_flow b.0 e.flow ≡ false) (λ (d : Entry T). (d.flow, d.slot)) es
      (λ k d within. same_flow_false _ _ (λ like. others_differ e es distinct k d within (sym like))))
      (flows_apart es (tail_distinct e es distinct))

  -- a slot that the map of flows takes next
  pub record IsNextFlow (under : ℕ → Option (Entry T)) (done : List (Flow × ℕ)) (rest : List (ℕ × ℕ)) (all : List (Flow × ℕ)) (slot : ℕ)
      (x : Entry T) : Type 0 where
    pub led : AreLedTo under rest (entries_of under rest)
    pub pair : IsNextPair same_flow done (slots_by_flow (entries_of under rest)) all x.flow slot

  pub next_flow : (under : ℕ → Option (Entry T)) (left rest keys : List (ℕ × ℕ)) (slot key : ℕ) (x : Entry T) (done : List (Flow × ℕ))
      → AreLedTo under left (entries_of under left) → AllPairs (λ d e. d.flow ≢ e.flow) (entries_of under keys)
      → left ≡ (slot, key) ∷ rest → under key ≡ Some x
      → done ++ slots_by_flow (entries_of under left) ≡ slots_by_flow (entries_of under keys)
      → IsNextFlow under done rest (slots_by_flow (entries_of under keys)) slot x
  next_flow under left rest keys slot key x done led distinct is at seam =
      let first = led_next under (slot, key) rest (entries_of under left) (subst (λ ks. AreLedTo under ks (entries_of under left)) is led) in
      let here : Some first.0 ≡ Some x = sym first.1.at ∙ at in
      let one : first.0 ≡ x = cc in
      let slot_is : first.0.slot ≡ slot = first.1.slot_is in
      let all : entries_of under left ≡ first.0 ∷ entries_of under rest = ap (entries_of under) is ∙ first.1.all in
      let pair : slots_by_flow (entries_of under left) ≡ (x.flow, slot) ∷ slots_by_flow (entries_of under rest) =
      ap slots_by_flow all ∙ (λ i. ((one i).flow, slot_is i) ∷ slots_by_flow (entries_of under rest)) in
      record {
        led = first.1.led;
        pair = next_pair same_flow done (slots_by_flow (entries_of under rest)) _ x.flow slot (sym (ap (λ xs. done ++ xs) pair) ∙ seam)
            (flows_apart (entries_of under keys) distinct);
      }

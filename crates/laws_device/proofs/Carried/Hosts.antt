-- What each call of the proxy and each program changes of a host's streams, as they are seen.
use Rattle.std.proofs.lemmas.Grind.{common_steps}
use Rattle.std.proofs.Common.{◌≡◌, ◌≢◌, ℕ, zero, suc, ◌+◌, ◌-◌, ◌==◌, Bool, true, false, cond, List, [], ◌∷◌, ◌++◌, length, slice_get, slice_set, Contains, Option}
use Rattle.std.proofs.{Common.{Some, None, refl, sym, ap, subst, ◌∙◌, arith, length-append, option_and_then, ◌≤◌}, lemmas.{Bool.Decides.nat_tests, List.append-nil}}
use Rattle.std.{proofs.lemmas.List.Elements.{filter-append, filter_agree}, specs.{List.{filter}, Option.{option_map, option_map_or}}}
use Rattle.vs_flow.specs.{Connection.Connection, Flow.same_flow, declared.flow.Flow.Flow}
use Rattle.vs_outside.{specs.{Host.{HostContents, Stream, stream_at, with_stream}, HostBytes.{is_labelled, labelled_with, stream_of}}, proofs.Frames.keeps_others}
use Rattle.vs_outside.proofs.Frames.{stream_at-with_stream}
use Rattle.vs_page.proofs.Flows.{same_self}
use Rattle.laws_device.{specs.Carried.Streamed.{Seen, connection_in, count_in, look, number_in, seen, seen_as}, proofs.Carried.Streamed.is_or_not}

-- The stream of an id as it is seen.
pub record IsThere (id : ℕ) (c : HostContents) (s : Seen) : Type 0 where
  pub stream : Stream
  pub at : stream_at id c ≡ Some stream
  pub is : seen c id stream ≡ s

pub there : (id : ℕ) (c : HostContents) (s : Seen) → look c id ≡ Some s → IsThere id c s
there id c s is = grind (arith, common_steps)

-- Its label, where it is seen as a connection; and that connection.
pub label_there : (c : HostContents) (id : ℕ) (o : Option Flow) (k : Connection) → option_map (connection_in c id) o ≡ Some k
    → (o ≡ Some k.flow) × (k ≡ connection_in c id k.flow)
label_there c id o k is = grind (arith, common_steps)

pub none_labelled : (c : HostContents) (id : ℕ) (o : Option Flow) → option_map (connection_in c id) o ≡ None → o ≡ None
none_labelled c id None is = refl
none_labelled c id (Some f) is = absurd cc

pub label_here : (c : HostContents) (id : ℕ) (st : Stream) (f : Flow) → st.label ≡ Some f → (seen c id st).label ≡ Some (connection_in c id f)
label_here c id st f is = ap (option_map (connection_in c id)) is

-- Hosts whose streams have the same labels, which they got in the same order.
module _ (c d : HostContents) (list : d.labelled ≡ c.labelled) (same : (f : Flow) (j : ℕ) → is_labelled f d j ≡ is_labelled f c j) where
  labelled_kept : (f : Flow) → labelled_with f d ≡ labelled_with f c
  labelled_kept f = filter_agree (is_labelled f d) (is_labelled f c) (same f) d.labelled ∙ ap (filter (is_labelled f c)) list

  pub counts_kept : (f : Flow) → count_in c f ≡ count_in d f
  counts_kept f = ap length (sym (labelled_kept f))

  label_kept : (j : ℕ) (o : Option Flow) → option_map (connection_in d j) o ≡ option_map (connection_in c j) o
  label_kept j None = refl
  label_kept j (Some f) = ap (λ (ids : List ℕ). let k : Connection = record { flow = f; number = number_in ids j } in Some k) (labelled_kept f)

  look_by : (j : ℕ) (o : Option Stream) → option_map (seen c j) o ≡ option_map (seen d j) o
  look_by j None = refl
  look_by j (Some st) = ap (λ (o : Option Connection). Some (seen_as o st)) (sym (label_kept j st.label))

  pub look_kept : (j : ℕ) → stream_at j d ≡ stream_at j c → look c j ≡ look d j
  look_kept j at = look_by j (stream_at j c) ∙ ap (option_map (seen d j)) (sym at)

  pub look_now : (j : ℕ) (st new : Stream) → stream_at j d ≡ Some new → new.label ≡ st.label → look d j ≡ Some (seen_as (option_map (connection_in c j) st.label) new)
  look_now j st new at label =
      ap (option_map (seen d j)) at
      ∙ ap (λ (o : Option Connection). Some (seen_as o new)) (label_kept j new.label ∙ ap (option_map (connection_in c j)) label)

-- A stream changes and keeps its label.
module _ (id : ℕ) (f : Stream → Stream) (c : HostContents) (keeps : (st : Stream) → (f st).label ≡ st.label) where
  still_labelled : (g : Flow) (j : ℕ) → is_labelled g (with_stream id f c) j ≡ is_labelled g c j
  still_labelled g j = is_or_not j id (is_labelled g (with_stream id f c) j ≡ is_labelled g c j)
      (λ place. ap (is_labelled g (with_stream id f c)) place ∙ here (stream_at id c) refl ∙ ap (is_labelled g c) (sym place))
      (λ other. ap (λ (o : Option Stream). option_map_or (λ s. option_map_or (same_flow g) s.label false) o false) (keeps_others id f c j other))
    where
      here : (o : Option Stream) → stream_at id c ≡ o → is_labelled g (with_stream id f c) id ≡ is_labelled g c id
      here None none = ap (λ (xs : List Stream). is_labelled g (record c { streams = xs }) id)
          (ap (λ (o : Option Stream). option_map_or (λ s. slice_set c.streams (id - 1) (f s)) o c.streams) none)
      here (Some st) at =
          ap (λ (o : Option Stream). option_map_or (λ s. option_map_or (same_flow g) s.label false) o false) (stream_at-with_stream id f c st at)
          ∙ ap (λ (o : Option Flow). option_map_or (same_flow g) o false) (keeps st)
          ∙ ap (λ (o : Option Stream). option_map_or (λ s. option_map_or (same_flow g) s.label false) o false) (sym at)

  -- The others stay.
  pub others_seen : (j : ℕ) → j ≢ id → look c j ≡ look (with_stream id f c) j
  others_seen j other = look_kept c (with_stream id f c) refl still_labelled j (keeps_others id f c j other)

  pub changed_seen : (st : Stream) → stream_at id c ≡ Some st → look (with_stream id f c) id ≡ Some (seen_as (option_map (connection_in c id) st.label) (f st))
  changed_seen st at = look_now c (with_stream id f c) refl still_labelled id st (f st) (stream_at-with_stream id f c st at) (keeps st)

  pub counts_still : (g : Flow) → count_in c g ≡ count_in (with_stream id f c) g
  counts_still g = counts_kept c (with_stream id f c) refl still_labelled g

  -- A change that isn't seen.
  pub unseen : ((o : Option Connection) (st : Stream) → seen_as o (f st) ≡ seen_as o st) → (j : ℕ) → look c j ≡ look (with_stream id f c) j
  unseen same j = is_or_not j id (look c j ≡ look (with_stream id f c) j)
      (λ place. ap (look c) place ∙ here (stream_at id c) refl ∙ ap (look (with_stream id f c)) (sym place)) (others_seen j)
    where
      here : (o : Option Stream) → stream_at id c ≡ o → look c id ≡ look (with_stream id f c) id
      here None none = ap (λ (xs : List Stream). look (record c { streams = xs }) id)
          (sym (ap (λ (o : Option Stream). option_map_or (λ s. slice_set c.streams (id - 1) (f s)) o c.streams) none))
      here (Some st) at = ap (option_map (seen c id)) at
          ∙ ap (λ (s : Seen). Some s) (sym (same (option_map (connection_in c id) st.label) st)) ∙ sym (changed_seen st at)

-- A stream that isn't there.
pub unseen_none : (id : ℕ) (f : Stream → Stream) (c : HostContents) → stream_at id c ≡ None → (j : ℕ) → look c j ≡ look (with_stream id f c) j
unseen_none id f c none j =
    ap (λ (xs : List Stream). look (record c { streams = xs }) j)
    (sym (ap (λ (o : Option Stream). option_map_or (λ s. slice_set c.streams (id - 1) (f s)) o c.streams) none))

-- One stream more: it stands at the end, where none was, and the others stay.
get_end : (xs : List Stream) (y : Stream) → slice_get (xs ++ y ∷ []) (length xs) ≡ Some y
get_end [] y = refl
get_end (x ∷ xs) y = get_end xs y

get_past : (xs : List Stream) → slice_get xs (length xs) ≡ None
get_past [] = refl
get_past (x ∷ xs) = get_past xs

get_other : (xs : List Stream) (y : Stream) (k : ℕ) → k ≢ length xs → slice_get (xs ++ y ∷ []) k ≡ slice_get xs k
get_other [] y zero other = absurd (other refl)
get_other [] y (suc k) other = refl
get_other (x ∷ xs) y zero other = refl
get_other (x ∷ xs) y (suc k) other = get_other xs y k (λ same. other (ap suc same))

module _ (y : Stream) (c : HostContents) where
  pub others_there : (id : ℕ) → id ≢ length c.streams + 1 → stream_at id (record c { streams = c.streams ++ y ∷ [] }) ≡ stream_at id c
  others_there id other = by (id == 0) refl
    where
      by : (b : Bool) → (id == 0) ≡ b → cond b None (slice_get (c.streams ++ y ∷ []) (id - 1)) ≡ cond b None (slice_get c.streams (id - 1))
      by true is = refl
      by false is =
          let some : id ≢ 0 = grind (arith, nat_tests, is) in
          get_other c.streams y (id - 1) (λ same. other (omega (arith, some, same)))

  new_place : (length c.streams + 1 == 0) ≡ false
  new_place = grind (arith, nat_tests)

  back : length c.streams + 1 - 1 ≡ length c.streams
  back = omega arith

  pub new_there : stream_at (length c.streams + 1) (record c { streams = c.streams ++ y ∷ [] }) ≡ Some y
  new_there = rw (new_place, back) (get_end c.streams y)

  pub none_there : stream_at (length c.streams + 1) c ≡ None
  none_there = rw (new_place, back) (get_past c.streams)

  -- Where it has no label, no stream is of another connection.
  module _ (free : y.label ≡ None) where
    abbrev with_it : HostContents
    with_it = record c { streams = c.streams ++ y ∷ [] }

    more_labelled : (g : Flow) (j : ℕ) → is_labelled g with_it j ≡ is_labelled g c j
    more_labelled g j = is_or_not j (length c.streams + 1) (is_labelled g with_it j ≡ is_labelled g c j)
        (λ place. ap (is_labelled g with_it) place
        ∙ ap (λ (o : Option Stream). option_map_or (λ s. option_map_or (same_flow g) s.label false) o false) new_there
        ∙ ap (λ (o : Option Flow). option_map_or (same_flow g) o false) free
        ∙ sym (ap (λ (o : Option Stream). option_map_or (λ s. option_map_or (same_flow g) s.label false) o false) none_there)
        ∙ ap (is_labelled g c) (sym place))
        (λ other. ap (λ (o : Option Stream). option_map_or (λ s. option_map_or (same_flow g) s.label false) o false) (others_there j other))

    pub others_look : (j : ℕ) → j ≢ length c.streams + 1 → look c j ≡ look with_it j
    others_look j other = look_kept c with_it refl more_labelled j (others_there j other)

    pub new_look : look with_it (length c.streams + 1) ≡ Some (seen_as None y)
    new_look = ap (option_map (seen with_it (length c.streams + 1))) new_there
        ∙ ap (λ (o : Option Flow). Some (seen_as (option_map (connection_in with_it (length c.streams + 1)) o) y)) free

    pub counts_more : (g : Flow) → count_in c g ≡ count_in with_it g
    counts_more g = counts_kept c with_it refl more_labelled g

-- The place of an id in a list, from 1; and 0, where it isn't there.
abbrev next_number : ℕ → ℕ
next_number zero = 0
next_number (suc n) = suc (suc n)

number_cons : (x : ℕ) (xs : List ℕ) (j : ℕ) → number_in (x ∷ xs) j ≡ cond (x == j) 1 (next_number (number_in xs j))
number_cons x xs j = grind (arith, common_steps)

number_push : (xs : List ℕ) (id j : ℕ) → j ≢ id → number_in (xs ++ id ∷ []) j ≡ number_in xs j
number_push xs id j other = grind (arith, common_steps)

number_last : (xs : List ℕ) (id : ℕ) → (Contains xs id → ⊥) → number_in (xs ++ id ∷ []) id ≡ length xs + 1
number_last [] id none = let here : (id == id) ≡ true = grind arith in
    number_cons id [] id ∙ ap (λ (b : Bool). cond b 1 (next_number (number_in [] id))) here
number_last (x ∷ xs) id none =
    let apart : (x == id) ≡ false = by (x == id) refl in
    let rest : number_in (xs ++ id ∷ []) id ≡ suc (length xs) = number_last xs id (λ within. none (later within)) ∙ omega arith in
    let more : suc (suc (length xs)) ≡ suc (length xs) + 1 = omega arith in
    number_cons x (xs ++ id ∷ []) id ∙ ap (λ (b : Bool). cond b 1 (next_number (number_in (xs ++ id ∷ []) id))) apart
    ∙ ap next_number rest ∙ more
  where
    later : Contains xs id → Contains (x ∷ xs) id
    later (k, less, is) = (suc k, omega (arith, less), is)

    by : (b : Bool) → (x == id) ≡ b → b ≡ false
    by false is = refl
    by true is = absurd (none (0, omega arith, grind (arith, nat_tests, is)))

-- What stands at its number.
pub number_get : (xs : List ℕ) (j k : ℕ) → number_in xs j ≡ suc k → slice_get xs k ≡ Some j
number_get [] j k is = absurd cc
number_get (x ∷ xs) j k is = by (x == j) refl (sym (number_cons x xs j) ∙ is) (λ n at. number_get xs j n at)
  where
    after : (n k : ℕ) → number_in xs j ≡ n → next_number n ≡ suc k → ((n : ℕ) → number_in xs j ≡ suc n → slice_get xs n ≡ Some j)
        → slice_get (x ∷ xs) k ≡ Some j
    after n k at is rest = grind (arith, common_steps)

    first : (k : ℕ) → 1 ≡ suc k → (x == j) ≡ true → slice_get (x ∷ xs) k ≡ Some j
    first zero is same = let here : x ≡ j = grind (arith, nat_tests, same) in ap (λ (y : ℕ). Some y) here
    first (suc k) is same = absurd cc

    by : (b : Bool) → (x == j) ≡ b → cond b 1 (next_number (number_in xs j)) ≡ suc k
        → ((n : ℕ) → number_in xs j ≡ suc n → slice_get xs n ≡ Some j) → slice_get (x ∷ xs) k ≡ Some j
    by true same is rest = first k is same
    by false other is rest = after (number_in xs j) k refl is rest

-- The stream of a connection that is seen.
pub stream_is : (c : HostContents) (id : ℕ) (st : Stream) (k : Connection) → 1 ≤ k.number → stream_at id c ≡ Some st → (seen c id st).label ≡ Some k
    → stream_of k c ≡ Some st
stream_is c id st k some at on = by k.number refl some
  where
    is : k ≡ connection_in c id k.flow
    is = (label_there c id st.label k on).1

    by : (n : ℕ) → k.number ≡ n → 1 ≤ n → stream_of k c ≡ Some st
    by zero none some = absurd (omega (arith, some))
    by (suc n) nth some =
        let back : k.number - 1 ≡ n = omega (arith, nth) in
        let here = number_get (labelled_with k.flow c) id n (sym (ap (λ (d : Connection). d.number) is) ∙ nth) in
        ap (λ (m : ℕ). option_and_then (λ i. stream_at i c) (slice_get (labelled_with k.flow c) m)) back
        ∙ ap (option_and_then (λ i. stream_at i c)) here ∙ at

-- A stream gets a label.
filter_within : (p q : ℕ → Bool) (xs : List ℕ) → ((x : ℕ) → Contains xs x → p x ≡ q x) → filter p xs ≡ filter q xs
filter_within p q [] same = refl
filter_within p q (x ∷ xs) same =
    ap (λ (b : Bool). cond b (x ∷ filter p xs) (filter p xs)) (same x (0, omega arith, refl))
    ∙ ap (λ (ys : List ℕ). cond (q x) (x ∷ ys) ys) (filter_within p q xs (λ y within. let less = within.1 in same y (suc within.0, omega (arith, less), within.2)))

not_kept : (p : ℕ → Bool) (xs : List ℕ) (id : ℕ) → Contains (filter p xs) id → Contains xs id
not_kept p [] id within = within
not_kept p (x ∷ xs) id within = by (p x) within (not_kept p xs id)
  where
    later : Contains xs id → Contains (x ∷ xs) id
    later (k, less, is) = (suc k, omega (arith, less), is)

    kept : Contains (x ∷ filter p xs) id → (Contains (filter p xs) id → Contains xs id) → Contains (x ∷ xs) id
    kept (zero, less, is) rest = (0, omega arith, is)
    kept (suc k, less, is) rest = later (rest (k, omega (arith, less), is))

    by : (b : Bool) → Contains (cond b (x ∷ filter p xs) (filter p xs)) id → (Contains (filter p xs) id → Contains xs id) → Contains (x ∷ xs) id
    by true within rest = kept within rest
    by false within rest = later (rest within)

module _ (c d : HostContents) (id : ℕ) (f : Flow) (list : d.labelled ≡ c.labelled ++ id ∷ []) (others : (j : ℕ) → j ≢ id → stream_at j d ≡ stream_at j c)
    (st : Stream) (at : stream_at id d ≡ Some st) (label : st.label ≡ Some f) (unlisted : Contains c.labelled id → ⊥) where
  here_labelled : (g : Flow) → is_labelled g d id ≡ same_flow g f
  here_labelled g = ap (λ (o : Option Stream). option_map_or (λ s. option_map_or (same_flow g) s.label false) o false) at
      ∙ ap (λ (o : Option Flow). option_map_or (same_flow g) o false) label

  old_labelled : (g : Flow) (j : ℕ) → Contains c.labelled j → is_labelled g d j ≡ is_labelled g c j
  old_labelled g j within = ap (λ (o : Option Stream). option_map_or (λ s. option_map_or (same_flow g) s.label false) o false)
      (others j (λ same. unlisted (subst (λ (i : ℕ). Contains c.labelled i) same within)))

  labelled_then : (g : Flow) → labelled_with g d ≡ labelled_with g c ++ cond (same_flow g f) (id ∷ []) []
  labelled_then g =
      ap (filter (is_labelled g d)) list ∙ filter-append (is_labelled g d) c.labelled (id ∷ [])
      ∙ ap (λ (xs : List ℕ). xs ++ filter (is_labelled g d) (id ∷ [])) (filter_within (is_labelled g d) (is_labelled g c) c.labelled (old_labelled g))
      ∙ ap (λ (b : Bool). labelled_with g c ++ cond b (id ∷ []) []) (here_labelled g)

  pub counts_then : (g : Flow) → count_in d g ≡ cond (same_flow g f) (count_in c g + 1) (count_in c g)
  counts_then g = ap length (labelled_then g) ∙ by (same_flow g f)
    where
      by : (b : Bool) → length (labelled_with g c ++ cond b (id ∷ []) []) ≡ cond b (count_in c g + 1) (count_in c g)
      by true = length-append (labelled_with g c) (id ∷ [])
      by false = ap length (append-nil (labelled_with g c))

  number_other : (g : Flow) (j : ℕ) → j ≢ id → number_in (labelled_with g d) j ≡ number_in (labelled_with g c) j
  number_other g j other = grind (arith, common_steps, labelled_then, number_push)

  number_here : number_in (labelled_with f d) id ≡ count_in c f + 1
  number_here = ap (λ (ids : List ℕ). number_in ids id) (labelled_then f)
      ∙ ap (λ (b : Bool). number_in (labelled_with f c ++ cond b (id ∷ []) []) id) (same_self f)
      ∙ number_last (labelled_with f c) id (λ within. unlisted (not_kept (is_labelled f c) c.labelled id within))

  other_label : (j : ℕ) → j ≢ id → (o : Option Flow) → option_map (connection_in c j) o ≡ option_map (connection_in d j) o
  other_label j other None = refl
  other_label j other (Some g) = ap (λ (n : ℕ). let k : Connection = record { flow = g; number = n } in Some k) (sym (number_other g j other))

  look_then : (j : ℕ) → j ≢ id → (o : Option Stream) → option_map (seen c j) o ≡ option_map (seen d j) o
  look_then j other None = refl
  look_then j other (Some s) = ap (λ (o : Option Connection). Some (seen_as o s)) (other_label j other s.label)

  pub others_then : (j : ℕ) → j ≢ id → look c j ≡ look d j
  others_then j other = look_then j other (stream_at j c) ∙ ap (option_map (seen d j)) (sym (others j other))

  pub here_then : look d id ≡ Some (seen_as (Some (record { flow = f; number = count_in c f + 1 })) st)
  here_then = ap (option_map (seen d id)) at ∙ ap (λ (o : Option Flow). Some (seen_as (option_map (connection_in d id) o) st)) label
      ∙ ap (λ (n : ℕ). let k : Connection = record { flow = f; number = n } in Some (seen_as (Some k) st)) number_here

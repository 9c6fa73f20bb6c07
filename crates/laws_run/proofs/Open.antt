-- At rest the device has a connection for each stream with a label that its proxy hasn't closed, and no other.
use Rattle.std.proofs.lemmas.Grind.{common_steps}
use Rattle.std.proofs.Common.{◌≡◌, ◌≢◌, ◌+◌, ◌-◌, ◌<◌, ◌==◌, ◌||◌, ◌&&◌, ℕ, zero, suc, Bool, true, false, cond, List, [], ◌∷◌, length, map, Option, Some, None, Contains, slice_get}
use Rattle.std.proofs.{Common.{slice_index_or, refl, sym, ap, subst, ◌∙◌, arith, ◌≤◌, ◌++◌, append-nil}, lemmas.{Bool.{and_parts}, Option.get_or_from_slice_get}}
use Rattle.std.proofs.lemmas.{Option.{same_Some, slice_get-get_or, slice_get_within}, List.Elements.{All-append, All-contains, All-head, All-map, All-tail}}
use Rattle.std.proofs.lemmas.{List.{Folds.{Any-from_list_any, list_any-from_Any}, Kept.AllPairs-cons, length-map}, Map.Made.{IsDistinct-from_AllPairs, length-from_same_keys}}
use Rattle.std.specs.{Bool.{Decides, one_answer}, Cmp.IsEquivalence, List.{All, AllByRecursion, AllPairs, IsDistinct, cons_option, filter_map, list_any}, Option.ForSome}
use Rattle.std.specs.Option.{option_map, option_map_or}
use Rattle.vs_flow.{specs.{Connection.Connection, Flow.same_flow, Table.{IsTable, Table, entry_of}, declared.{flow.Flow.Flow, table.Entry.Entry}}, proofs.Lookups.entry_under_found}
use Rattle.laws_tables.{proofs.Slots.found_by, specs.Ends.{flows_of, is_among}}
use Rattle.vs_conn.specs.End.{ConnectionEnd}
use Rattle.vs_outside.specs.{Host.{HostContents, Stream, stream_at}, HostBytes.stream_of, HostProgram.closes, declared.host_net.StreamState.StreamState}
use Rattle.vs_page.{specs.Log.Log, proofs.Flows.{same_is, same_self}}
use Rattle.vs_device_parts.specs.State.{DeviceConnection, DeviceEntry}
use Rattle.vs_proxy_parts.specs.State.{Handshake}
use Rattle.laws_device.specs.{Honest.end_in, Streams.{is_open_in, is_open_on}, Carried.Streamed.{IsJoined, IsStreamed, Seen, connection_in, connection_of, count_in}}
use Rattle.laws_device.{specs.Carried.Streamed.{Ports, look, seen}, proofs.{Waiting.{open_among, open_of}, Carried.{Closing.{is_under, named}, Hosts.{label_here, stream_is}}}}
use Rattle.laws_rest.proofs.Hosts.{stream_seen}
use Rattle.laws_run.specs.{Complete.{open_label, open_labels}, Dry.{OfOpen, stream_open}}
use Rattle.vs_outside.specs.declared.host_net.StreamState.TheVariants as state

-- A test that decides whether two values are one.
pub equivalence : {A : Type 0} {eq : A → A → Bool} → ((a b : A) → Decides (eq a b) (a ≡ b)) → IsEquivalence eq
equivalence {eq = eq} same = record {
  refl = λ a. (same a a).1 refl;
  symm = λ a b. one_answer (eq a b) (eq b a) (same a b) (λ is. sym ((same b a).0 is), λ is. (same b a).1 (sym is));
  congr = λ a b c is. ap (λ x. eq x c) ((same a b).0 is);
}

flow_or_not : (f g : Flow) → Decides (same_flow f g) (f ≡ g)
flow_or_not f g = (same_is f g, λ is. ap (same_flow f) (sym is) ∙ same_self f)

-- A connection whose stream is open.
pub open_stream : (c : Connection) (h : HostContents) → stream_open c h ≡ true → (s : Stream) × (stream_of c h ≡ Some s) × (is_open_in s.state ≡ true)
open_stream c h is = grind (arith, common_steps)

-- The labels of open streams: they are those that a flow's open stream has.
label_open : (f : Flow) (xs : List Stream) → list_any (same_flow f) (filter_map open_label xs) ≡ list_any (is_open_on f) xs
label_open f [] = refl
label_open f (x ∷ xs) = by (is_open_in x.state) x.label (label_open f xs)
  where
    by : (b : Bool) (o : Option Flow) → list_any (same_flow f) (filter_map open_label xs) ≡ list_any (is_open_on f) xs
        → list_any (same_flow f) (cons_option (cond b o None) (filter_map open_label xs))
        ≡ ((b && option_map_or (same_flow f) o false) || list_any (is_open_on f) xs)
    by false o rest = rest
    by true None rest = rest
    by true (Some g) rest = ap (λ (c : Bool). same_flow f g || c) rest

none_apart : (f : Flow) (gs : List Flow) → list_any (same_flow f) gs ≡ false → AllByRecursion (λ g. same_flow f g ≡ false) gs
none_apart f [] is = tt
none_apart f (g ∷ gs) is = by (same_flow f g) refl is (none_apart f gs)
  where
    by : (b : Bool) → same_flow f g ≡ b → (b || list_any (same_flow f) gs) ≡ false
        → (list_any (same_flow f) gs ≡ false → AllByRecursion (λ h. same_flow f h ≡ false) gs) → AllByRecursion (λ h. same_flow f h ≡ false) (g ∷ gs)
    by true own is rest = absurd cc
    by false other is rest = (other, rest is)

-- Keys that differ, before others.
pub pairs_of : {A K : Type 0} (key : A → K) (xs : List A) (rest : List K) → AllPairs (λ x y. key x ≢ key y) xs → AllPairs (λ c d. c ≢ d) rest
    → All (λ x. All (λ d. key x ≢ d) rest) xs → AllPairs (λ c d. c ≢ d) (map key xs ++ rest)
pairs_of key [] rest own others apart = others
pairs_of key (x ∷ xs) rest own others apart =
    AllPairs-cons (λ c d. c ≢ d) (key x) (map key xs ++ rest)
    (All-append (λ d. key x ≢ d) (map key xs) rest
    (All-map (λ d. key x ≢ d) key xs (λ k d less. own 0 (suc k) d (omega arith) (omega (arith, less))))
    (All-head (λ y. All (λ d. key y ≢ d) rest) x xs apart))
    (pairs_of key xs rest (λ i j d before within. own (suc i) (suc j) d (omega (arith, before)) (omega (arith, within))) others
    (All-tail (λ y. All (λ d. key y ≢ d) rest) x xs apart))

pub pairs_map : {A K : Type 0} (key : A → K) (xs : List A) → AllPairs (λ x y. key x ≢ key y) xs → AllPairs (λ c d. c ≢ d) (map key xs)
pairs_map key xs own = subst (λ cs. AllPairs (λ c d. c ≢ d) cs) (append-nil (map key xs))
    (pairs_of key xs [] own (λ i j d before less. absurd (omega (arith, less))) (λ k d less i c within. absurd (omega (arith, within))))

record HasFlow (f : Flow) (es : List DeviceEntry) : Type 0 where
  entry : DeviceEntry
  within : Contains es entry
  flow : f ≡ entry.flow

flow_in : (f : Flow) (es : List DeviceEntry) → list_any (same_flow f) (map (λ e. e.flow) es) ≡ true → HasFlow f es
flow_in f [] is = absurd cc
flow_in f (e ∷ es) is = by (same_flow f e.flow) refl is (flow_in f es)
  where
    by : (b : Bool) → same_flow f e.flow ≡ b → (b || list_any (same_flow f) (map (λ x. x.flow) es)) ≡ true
        → (list_any (same_flow f) (map (λ x. x.flow) es) ≡ true → HasFlow f es) → HasFlow f (e ∷ es)
    by true same is rest = record { entry = e; within = (0, omega arith, refl); flow = same_is f e.flow same }
    by false other is rest =
        let r = rest is in
        let less = r.within.1 in record { entry = r.entry; within = (suc r.within.0, omega (arith, less), r.within.2); flow = r.flow }

module _ {T : Type 0} (end_of : T → ConnectionEnd) where
  among_at : (es : List (Entry T)) (x : Entry T) (k : ℕ) → k < length es → slice_index_or es k x ≡ x → is_among x.flow (flows_of (map (λ y. record { flow = y.flow; end = end_of y.value }) es)) ≡ true
  among_at [] x k less at = absurd (omega (arith, less))
  among_at (y ∷ ys) x zero less at =
      ap (λ (b : Bool). b || is_among x.flow (flows_of (map (λ z. record { flow = z.flow; end = end_of z.value }) ys)))
      (ap (λ (d : Entry T). same_flow x.flow d.flow) at ∙ same_self x.flow)
  among_at (y ∷ ys) x (suc k) less at = by (same_flow x.flow y.flow) (among_at ys x k (omega (arith, less)) at)
    where
      by : (b : Bool) → is_among x.flow (flows_of (map (λ (z : Entry T). record { flow = z.flow; end = end_of z.value }) ys)) ≡ true
          → (b || is_among x.flow (flows_of (map (λ (z : Entry T). record { flow = z.flow; end = end_of z.value }) ys))) ≡ true
      by true rest = refl
      by false rest = rest

  -- The flow of an entry is among those of its table.
  pub among_entry : (es : List (Entry T)) (x : Entry T) → Contains es x → is_among x.flow (flows_of (map (λ y. record { flow = y.flow; end = end_of y.value }) es)) ≡ true
  among_entry es x within = among_at es x within.0 within.1 within.2

flows_any : (f : Flow) (es : List DeviceEntry)
    → is_among f (flows_of (map (λ (x : DeviceEntry). record { flow = x.flow; end = end_in x.value }) es)) ≡ list_any (same_flow f) (map (λ e. e.flow) es)
flows_any f [] = refl
flows_any f (e ∷ es) = ap (λ (b : Bool). same_flow f e.flow || b) (flows_any f es)

-- A connection's entry in the device's table, by its stream's id.
pub record IsOf (t : Table DeviceConnection) (log : Log) (c : Connection) (id : ℕ) : Type 0 where
  pub entry : DeviceEntry
  pub within : Contains t.entries entry
  pub its : connection_of entry log ≡ c
  pub found : entry_of t c.flow ≡ Some entry
  pub stream : entry.value.stream ≡ id

-- And an entry's stream, which is open.
pub record HasStream (h : HostContents) (log : Log) (e : DeviceEntry) : Type 0 where
  pub stream : Stream
  pub at : stream_at e.value.stream h ≡ Some stream
  pub label : stream.label ≡ Some e.flow
  pub its : stream_of (connection_of e log) h ≡ Some stream
  pub opened : is_open_in stream.state ≡ true

module _ (h : HostContents) (log : Log) (port : Ports) (t : Table DeviceConnection) (hands : List Handshake) (streamed : IsStreamed h log port t hands)
    (table : IsTable t) where
  looked_at : (k : ℕ) (s : Stream) → slice_get h.streams k ≡ Some s → stream_at (k + 1) h ≡ Some s
  looked_at k s at = grind (arith, common_steps)

  label_of : (f : Flow) (s : Stream) → is_open_on f s ≡ true → s.label ≡ Some f
  label_of f s is = grind (arith, common_steps, and_parts, same_is)

  still_open : (s : StreamState) → is_open_in s ≡ true → closes s ≡ false
  still_open s is = grind (arith, common_steps)

  -- The connection of an open stream.
  of_seen : (c : Connection) (id : ℕ) (s : Stream) → stream_at id h ≡ Some s → (seen h id s).label ≡ Some c → is_open_in s.state ≡ true → IsOf t log c id
  of_seen c id s at label opened =
      let there : look h id ≡ Some (seen h id s) = ap (option_map (seen h id)) at in
      let slot = streamed.tabled id (seen h id s) c there label (still_open s.state opened) in
      let u = is_under t slot.0 id slot.1 in
      let e = u.entry in
      let own = named e id u.stream in
      let within = (found_by (λ (y : DeviceEntry). y.slot == slot.0) t.entries e u.under).0 in
      let j = All-contains (IsJoined (look h) (count_in h) log) t.entries e streamed.joined within in
      let one = same_Some (seen h id s) j.stream (sym there ∙ ap (look h) (sym own.1) ∙ j.there) in
      let its : connection_of e log ≡ c = same_Some (connection_of e log) c (sym j.label ∙ ap (λ (x : Seen). x.label) (sym one) ∙ label) in
      record {
        entry = e;
        within = within;
        its = its;
        found = ap (λ (d : Connection). entry_of t d.flow) (sym its) ∙ (entry_under_found t slot.0 e table u.under).of_flow;
        stream = own.1;
      }

  of_open : (f : Flow) (k : ℕ) (s : Stream) → slice_get h.streams k ≡ Some s → is_open_on f s ≡ true → IsOf t log (connection_in h (k + 1) f) (k + 1)
  of_open f k s at opened =
      of_seen (connection_in h (k + 1) f) (k + 1) s (looked_at k s at) (label_here h (k + 1) s f (label_of f s opened))
      (and_parts (is_open_in s.state) (option_map_or (same_flow f) s.label false) opened).0

  pub entry_of_open : (c : Connection) → 1 ≤ c.number → stream_open c h ≡ true → (e : DeviceEntry) × Contains t.entries e × (connection_of e log ≡ c)
  entry_of_open c some opens =
      let s = open_stream c h opens in
      let it = stream_seen h log port t hands streamed c some s.0 s.1 in
      let r = of_seen c it.id s.0 it.at it.label s.2 in (r.entry, r.within, r.its)

  -- Two open streams with one label are one.
  pub open_alone : (f : Flow) (i j : ℕ) (s u : Stream) → slice_get h.streams i ≡ Some s → slice_get h.streams j ≡ Some u
      → is_open_on f s ≡ true → is_open_on f u ≡ true → i ≡ j
  open_alone f i j s u at also opened other =
      let a = of_open f i s at opened in
      let b = of_open f j u also other in
      let same : a.entry ≡ b.entry = same_Some a.entry b.entry (sym a.found ∙ b.found) in
      let streams : i + 1 ≡ j + 1 = sym a.stream ∙ ap (λ (x : DeviceEntry). x.value.stream) same ∙ b.stream in
      omega (arith, streams)

module _ (h : HostContents) (log : Log) (port : Ports) (t : Table DeviceConnection) (hands : List Handshake) (streamed : IsStreamed h log port t hands)
    (table : IsTable t) (is_open : (e : DeviceEntry) → Contains t.entries e → e.value.closed ≡ false) where
  labels_distinct : (n : ℕ) (xs : List Stream) → ((k : ℕ) (s : Stream) → slice_get xs k ≡ Some s → slice_get h.streams (n + k) ≡ Some s)
      → IsDistinct same_flow (filter_map open_label xs)
  unfolding IsDistinct
  labels_distinct n [] at = tt
  labels_distinct n (x ∷ xs) at =
      let here : (k : ℕ) → n + suc k ≡ suc n + k = λ k. omega arith in
      by (labels_distinct (suc n) xs (λ k s there. subst (λ (i : ℕ). slice_get h.streams i ≡ Some s) (here k) (at (suc k) s there)))
      (is_open_in x.state) refl x.label refl
    where
      differs : (f : Flow) → is_open_on f x ≡ true → (b : Bool) → list_any (is_open_on f) xs ≡ b → b ≡ false
      differs f opened false is = refl
      differs f opened true is =
          let one = Any-from_list_any (is_open_on f) xs is in
          let there : slice_get xs one.0 ≡ Some one.1 = slice_get-get_or xs one.0 one.1 one.2 ∙ ap (λ (s : Stream). Some s) one.3 in
          let same = open_alone h log port t hands streamed table f (n + 0) (n + suc one.0) x one.1 (at 0 x refl) (at (suc one.0) one.1 there) opened one.4 in
          absurd (omega (arith, same))

      by : IsDistinct same_flow (filter_map open_label xs) → (b : Bool) → is_open_in x.state ≡ b → (o : Option Flow) → x.label ≡ o
          → IsDistinct same_flow (cons_option (cond b o None) (filter_map open_label xs))
      by rest false opened o label = rest
      by rest true opened None label = rest
      by rest true opened (Some g) label =
          let passes : is_open_on g x ≡ true = ap (λ (b : Bool). b && option_map_or (same_flow g) x.label false) opened
          ∙ ap (λ (o : Option Flow). option_map_or (same_flow g) o false) label ∙ same_self g in
          (none_apart g (filter_map open_label xs) (label_open g xs ∙ differs g passes (list_any (is_open_on g) xs) refl), rest)

  -- The stream of a connection is open.
  pub has_stream : (e : DeviceEntry) → Contains t.entries e → HasStream h log e
  has_stream e is =
      let j = All-contains (IsJoined (look h) (count_in h) log) t.entries e streamed.joined is in
      let o = open_of h log port t hands streamed e is (is_open e is) in
      let some = (streamed.streams.labels e.value.stream j.stream (connection_of e log) j.there j.label).some in
      record { stream = o.stream; at = o.at; label = o.label; its = stream_is h e.value.stream o.stream (connection_of e log) some o.at o.joined; opened = o.opened }

  -- What is so of it is so of its connection's.
  pub one_is : (P : Stream → Type 0) (e : DeviceEntry) → Contains t.entries e → ForSome (stream_at e.value.stream h) P → OfOpen (connection_of e log) h P
  one_is P e within so = λ s is opened. let st = has_stream e within in so s (st.at ∙ sym st.its ∙ is)

  pub stream_there : (e : DeviceEntry) → Contains t.entries e → stream_open (connection_of e log) h ≡ true
  stream_there e within = let st = has_stream e within in ap (λ (o : Option Stream). option_map_or (λ s. is_open_in s.state) o false) st.its ∙ st.opened

  entry_open : (e : DeviceEntry) → Contains t.entries e → list_any (is_open_on e.flow) h.streams ≡ true
  entry_open e is =
      let st = has_stream e is in
      let passes : is_open_on e.flow st.stream ≡ true =
      ap (λ (b : Bool). b && option_map_or (same_flow e.flow) st.stream.label false) st.opened
      ∙ ap (λ (o : Option Flow). option_map_or (same_flow e.flow) o false) st.label ∙ same_self e.flow in
      let at = placed (e.value.stream == 0) e.value.stream st.stream st.at in
      list_any-from_Any (is_open_on e.flow) h.streams (
        e.value.stream - 1,
        st.stream,
        slice_get_within h.streams (e.value.stream - 1) st.stream at,
        get_or_from_slice_get h.streams (e.value.stream - 1) st.stream st.stream at,
        passes,
      )
    where
      placed : (b : Bool) (id : ℕ) (st : Stream) → cond b None (slice_get h.streams (id - 1)) ≡ Some st → slice_get h.streams (id - 1) ≡ Some st
      placed true id st at = absurd cc
      placed false id st at = at

  up : (f : Flow) (a b : Bool) → list_any (same_flow f) (map (λ e. e.flow) t.entries) ≡ a → list_any (same_flow f) (filter_map open_label h.streams) ≡ b → a ≡ b
  up f true true is opened = refl
  up f false false is opened = refl
  up f true false is opened =
      let e = flow_in f t.entries is in
      let own : list_any (is_open_on f) h.streams ≡ true =
      subst (λ (g : Flow). list_any (is_open_on g) h.streams ≡ true) (sym e.flow) (entry_open e.entry e.within) in
      let no : true ≡ false = sym own ∙ sym (label_open f h.streams) ∙ opened in absurd cc
  up f false true is opened =
      let among = open_among h log port t hands streamed f (sym (label_open f h.streams) ∙ opened) in
      let no : true ≡ false = sym among ∙ flows_any f t.entries ∙ is in absurd cc

  from_none : (k : ℕ) → k ≡ 0 + k
  from_none k = omega arith

  -- The table has as many entries as there are labels of open streams.
  pub as_many_open : length t.entries ≡ length (open_labels h)
  as_many_open =
      sym (length-map t.entries (λ e. e.flow))
      ∙ length-from_same_keys (equivalence flow_or_not) (map (λ e. e.flow) t.entries) (open_labels h)
      (IsDistinct-from_AllPairs flow_or_not (map (λ e. e.flow) t.entries) (pairs_map (λ e. e.flow) t.entries table.distinct))
      (labels_distinct 0 h.streams (λ k s at. subst (λ (i : ℕ). slice_get h.streams i ≡ Some s) (from_none k) at)) (λ f. up f _ _ refl refl)

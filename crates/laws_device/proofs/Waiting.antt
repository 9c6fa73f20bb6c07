-- The device's table by the log and by the host's streams.
use Rattle.std.proofs.lemmas.Grind.{common_steps}
use Rattle.laws_device.specs.Carried.Streamed.{Ports, ports_of, IsJoined, IsStreamed, Seen, client_waits, connection_in, connection_of, count_in, lasting, look, seen}
use Rattle.laws_device.{specs.{Streams.{AreStreamedSince, IsTabledWith, has_open_stream, is_open_in, is_open_on}, Honest.IsWith}, proofs.Carried.Closing.{is_under, named}}
use Rattle.laws_device.proofs.{Carried.{HostCalls.some_seen, Hosts.{label_here, label_there, there}}, Shown.{left_open, same_flows}}
use Rattle.std.proofs.Common.{◌≡◌, ℕ, zero, suc, ◌+◌, ◌-◌, ◌<◌, ◌==◌, ◌&&◌, ◌||◌, Bool, true, false, cond, List, [], ◌∷◌, length, map, Contains, slice_get, slice_index_or, Option}
use Rattle.std.{proofs.{Common.{Some, None, refl, sym, ap, subst, ◌∙◌, arith}, lemmas.{Bool.{Decides.nat_tests, and_parts}, List.Elements.All-contains}}}
use Rattle.std.proofs.lemmas.{List.Folds.{Any-from_list_any, list_any_at}, Option.{get_or_from_slice_get, slice_get-get_or, slice_get_within}}
use Rattle.std.specs.Option.{option_map, option_map_or}
use Rattle.vs_conn.specs.{End.ConnectionEnd, declared.end.State.{TheVariants.Asked}}
use Rattle.vs_device_parts.specs.{Calls.Situation, State.{DeviceConnection, DeviceEntry, DeviceState}}
use Rattle.vs_flow.{specs.{Flow.same_flow, Table.Table, declared.flow.Flow.Flow, Connection.Connection}, proofs.Entries.same_flow_true}
use Rattle.vs_outside.specs.{Host.{HostContents, Stream, stream_at, waits}, HostProgram.closes, declared.host_net.StreamState.StreamState}
use Rattle.vs_page.{specs.Log.Log, proofs.Flows.same_self}
use Rattle.vs_proxy_parts.specs.State.{Handshake}
use Rattle.laws_tables.{specs.Ends.{FlowEnd, flows_of, is_among, is_new, new_flows}, proofs.Slots.found_by}
use Rattle.vs_outside.specs.declared.host_net.StreamState.TheVariants as state

-- The flows of a table, and of the connections whose REQUEST isn't put.
abbrev out : DeviceEntry → FlowEnd
out e = record { flow = e.flow; end = e.value.end }

among_entry : (es : List DeviceEntry) (e : DeviceEntry) (k : ℕ) → k < length es → slice_index_or es k e ≡ e
    → is_among e.flow (flows_of (map out es)) ≡ true
among_entry [] e k less at = absurd (omega (arith, less))
among_entry (y ∷ ys) e zero less at =
    ap (λ (b : Bool). b || is_among e.flow (flows_of (map out ys))) (ap (λ (d : DeviceEntry). same_flow e.flow d.flow) at
    ∙ same_self e.flow)
among_entry (y ∷ ys) e (suc k) less at = by (same_flow e.flow y.flow) (among_entry ys e k (omega (arith, less)) at)
  where
    by : (b : Bool) → is_among e.flow (flows_of (map out ys)) ≡ true → (b || is_among e.flow (flows_of (map out ys))) ≡ true
    by true rest = refl
    by false rest = rest

pub record IsNewOn (es : List DeviceEntry) (f : Flow) : Type 0 where
  pub entry : DeviceEntry
  pub there : Contains es entry
  pub flow : entry.flow ≡ f
  pub new : is_new entry.value.end ≡ true

pub new_on : (f : Flow) (es : List DeviceEntry) → is_among f (new_flows (map out es)) ≡ true → IsNewOn es f
new_on f [] is = absurd cc
new_on f (e ∷ es) is = by (is_new e.value.end) refl is (λ more. later (new_on f es more))
  where
    later : IsNewOn es f → IsNewOn (e ∷ es) f
    later n = let less = n.there.1 in record {
      entry = n.entry;
      there = (suc n.there.0, omega (arith, less), n.there.2);
      flow = n.flow;
      new = n.new;
    }

    first : (b : Bool) → same_flow f e.flow ≡ b → is_new e.value.end ≡ true → (b || is_among f (new_flows (map out es))) ≡ true
        → (is_among f (new_flows (map out es)) ≡ true → IsNewOn (e ∷ es) f) → IsNewOn (e ∷ es) f
    first true same new is rest = record { entry = e; there = (0, omega arith, refl); flow = sym (same_flow_true f e.flow same); new = new }
    first false other new is rest = rest is

    by : (b : Bool) → is_new e.value.end ≡ b → is_among f (cond b (e.flow ∷ new_flows (map out es)) (new_flows (map out es))) ≡ true
        → (is_among f (new_flows (map out es)) ≡ true → IsNewOn (e ∷ es) f) → IsNewOn (e ∷ es) f
    by true new is rest = first (same_flow f e.flow) refl new is rest
    by false old is rest = rest is

new_asks : (e : ConnectionEnd) → is_new e ≡ true → e.state ≡ Asked
new_asks e is = grind (arith, common_steps)

opens_by : (s : StreamState) → waits s ≡ false → closes s ≡ false → is_open_in s ≡ true
opens_by s a b = grind (arith, common_steps)

still_by : (s : StreamState) → is_open_in s ≡ true → closes s ≡ false
still_by s is = grind (arith, common_steps)

-- Where a flow is in the table, as its log leaves it open or it is new, and each flow of these has what those of the table have.
pub tied_by : (among opened new waits : Bool) → among ≡ (opened || new) → (new ≡ true → waits ≡ true) → (waits ≡ true → among ≡ true)
    → among ≡ (opened || waits)
tied_by among opened new waits is up down = grind (arith, common_steps)

module _ (c : HostContents) (log : Log) (port : Ports) (t : Table DeviceConnection) (hands : List Handshake)
    (x : IsStreamed c log port t hands) where
  -- The stream of a connection that isn't closed is open.
  pub record IsOpenOf (e : DeviceEntry) : Type 0 where
    pub stream : Stream
    pub at : stream_at e.value.stream c ≡ Some stream
    pub joined : (seen c e.value.stream stream).label ≡ Some (connection_of e log)
    pub label : stream.label ≡ Some e.flow
    pub opened : is_open_in stream.state ≡ true

  pub open_of : (e : DeviceEntry) → Contains t.entries e → e.value.closed ≡ false → IsOpenOf e
  open_of e is on =
      let j = All-contains (IsJoined (look c) (count_in c) log) t.entries e x.joined is in
      let st = there e.value.stream c j.stream j.there in
      let its = ap (λ (s : Seen). s.label) st.is ∙ j.label in
      let label : st.stream.label ≡ Some e.flow = (label_there c e.value.stream st.stream.label (connection_of e log) its).0 in
      record {
        stream = st.stream;
        at = st.at;
        joined = its;
        label = label;
        opened = opens_by st.stream.state (waits_not e.value.stream st.stream st.at e.flow label (waits st.stream.state) refl)
            (ap (λ (s : Seen). s.closed) st.is ∙ j.closed ∙ on);
      }
    where
      waits_not : (id : ℕ) (st : Stream) → stream_at id c ≡ Some st → (f : Flow) → st.label ≡ Some f → (b : Bool) → waits st.state ≡ b
          → waits st.state ≡ false
      waits_not id st at f label false is = is
      waits_not id st at f label true is =
          let client : seen c id st ≡ client_waits = x.streams.waiting id (seen c id st) (ap (option_map (seen c id)) at) is in
          let both : None ≡ Some (connection_in c id f) = sym (ap (λ (s : Seen). s.label) client) ∙ label_here c id st f label in
          absurd cc

  -- So is that of one whose REQUEST isn't put.
  pub new_open : (e : DeviceEntry) → Contains t.entries e → is_new e.value.end ≡ true → has_open_stream e.flow c ≡ true
  new_open e is new =
      let j = All-contains (IsJoined (look c) (count_in c) log) t.entries e x.joined is in
      let o = open_of e is (j.asked (new_asks e.value.end new)).3 in
      let passes : is_open_on e.flow o.stream ≡ true =
      ap (λ (b : Bool). b && option_map_or (same_flow e.flow) o.stream.label false) o.opened
      ∙ ap (λ (l : Option Flow). option_map_or (same_flow e.flow) l false) o.label ∙ same_self e.flow in
      let place = placed (e.value.stream == 0) e.value.stream o.stream o.at in
      list_any_at (is_open_on e.flow) c.streams (e.value.stream - 1) o.stream (slice_get_within c.streams (e.value.stream - 1) o.stream place)
      (ap (is_open_on e.flow) (get_or_from_slice_get c.streams (e.value.stream - 1) o.stream o.stream place) ∙ passes)
    where
      placed : (b : Bool) (id : ℕ) (st : Stream) → cond b None (slice_get c.streams (id - 1)) ≡ Some st
          → slice_get c.streams (id - 1) ≡ Some st
      placed true id st at = absurd cc
      placed false id st at = at

  -- An open stream with a label is that of a connection.
  pub open_among : (f : Flow) → has_open_stream f c ≡ true → is_among f (flows_of (map out t.entries)) ≡ true
  open_among f is =
      let one = Any-from_list_any (is_open_on f) c.streams is in
      let element : Stream = one.1 in
      let parts = and_parts (is_open_in element.state) (option_map_or (same_flow f) element.label false) one.4 in
      let label = labelled element.label parts.1 in
      let id : ℕ = one.0 + 1 in
      let at : look c id ≡ Some (seen c id element) =
      placed one.0 element (slice_get-get_or c.streams one.0 element one.2 ∙ ap (λ (s : Stream). Some s) one.3) in
      let its = label_here c id element f label in
      let slot = x.tabled id (seen c id element) (connection_in c id f) at its (still_by element.state parts.0) in
      let u = is_under t slot.0 id slot.1 in
      let e = u.entry in
      let within = (found_by (λ (y : DeviceEntry). y.slot == slot.0) t.entries e u.under).0 in
      let j = All-contains (IsJoined (look c) (count_in c) log) t.entries e x.joined within in
      let same : seen c id element ≡ j.stream = some_seen (seen c id element) j.stream
      (sym at ∙ ap (look c) (sym (named e id u.stream).1) ∙ j.there) in
      let own : e.flow ≡ f = flow_of (connection_of e log) (connection_in c id f) (sym j.label ∙ ap (λ (s : Seen). s.label) (sym same) ∙ its) in
      subst (λ (g : Flow). is_among g (flows_of (map out t.entries)) ≡ true) own (among_entry t.entries e within.0 within.1 within.2)
    where
      labelled : (o : Option Flow) → option_map_or (same_flow f) o false ≡ true → o ≡ Some f
      labelled None is = absurd cc
      labelled (Some g) is = ap (λ (h : Flow). Some h) (sym (same_flow_true f g is))

      flow_of : (a b : Connection) → ◌≡◌ {A = Option Connection} (Some a) (Some b) → a.flow ≡ b.flow
      flow_of a b is = cc

      placed : (k : ℕ) (st : Stream) → slice_get c.streams k ≡ Some st → look c (k + 1) ≡ Some (seen c (k + 1) st)
      placed k st at =
          let some : (k + 1 == 0) ≡ false = grind (arith, nat_tests) in
          let back : k + 1 - 1 ≡ k = omega arith in
          ap (λ (b : Bool). option_map (seen c (k + 1)) (cond b None (slice_get c.streams (k + 1 - 1)))) some
          ∙ ap (λ (i : ℕ). option_map (seen c (k + 1)) (slice_get c.streams i)) back ∙ ap (option_map (seen c (k + 1))) at

  -- One whose REQUEST isn't put has an open stream.
  pub new_streams : (f : Flow) → is_among f (new_flows (map out t.entries)) ≡ true → has_open_stream f c ≡ true
  new_streams f is = let n = new_on f t.entries is in subst (λ (g : Flow). has_open_stream g c ≡ true) n.flow
      (new_open n.entry n.there n.new)

-- By a ring that tells its log and a host that exposes its streams.
pub tabled_with : (fresh : Bool) (first port : ℕ) (lines : List Handshake) (s : DeviceState) (a : Situation) → IsWith first port s a.ring
    → AreStreamedSince fresh first port lines s a → IsTabledWith first s a
tabled_with fresh first port lines s a holds streams honest l is few h there f =
    let x = streams honest l is few h there in
    tied_by _ _ _ _ (left_open first port s l ((holds.1 l is).1 honest) f) (new_streams h l.entries (ports_of (lasting fresh) port s) s.table lines x f)
    (λ opened. ap (is_among f) (same_flows s.table.entries) ∙ open_among h l.entries (ports_of (lasting fresh) port s) s.table lines x f opened)

-- What the host's streams took and gave, through the calls of the proxy and of the host's programs.
use Rattle.std.proofs.Common.{arith}
use Rattle.std.proofs.lemmas.Grind.{common_steps}
use Rattle.std.proofs.Common.{◌≡◌, ◌≢◌, ℕ, Bool, true, false, cond, List, [], ◌∷◌, ◌++◌, take, get_or, ◌+◌, ◌-◌, ◌<◌, ◌==◌, nat_lt, length, Contains, Option, Some, None, refl, sym, ap, subst, ◌∙◌, ◌⊎◌}
use Rattle.std.{proofs.{Common.{inl, inr}, lemmas.List.{append-nil, Elements.{All-push, All-weaker}, Quantifiers.all_pairs_push}}, specs.{List.All, Option.option_map}}
use Rattle.std.specs.Option.{option_map_or}
use Rattle.vs_outside.specs.Host.{HostContents, Stream, accept_answer, after_accept, after_close, after_read, after_write, called, give_bytes, next_bytes, stream_at, take_bytes}
use Rattle.vs_outside.{specs.{Host.waits, HostProgram.{after_client, client_stream}, HostBytes.{after_line, has_line}}, proofs.Frames.accepts_waiting}
use Rattle.vs_conn.specs.declared.end.State.TheVariants.{Asked}
use Rattle.vs_device_parts.specs.{Connections.cut_off, State.{DeviceConnection, DeviceEntry}}
use Rattle.vs_flow.specs.{Connection.Connection, Table.{IsTable, Table, with_value, without}, declared.flow.Flow.Flow}
use Rattle.vs_page.specs.{Fair.{number_of, payload_got, payload_put}, Log.{Device, Log}}
use Rattle.vs_proxy_parts.specs.State.{Handshake}
use Rattle.vs_uds.specs.{Reading.is_decided, declared.connect.TheConstants.CONNECT_MAX}
use Rattle.laws_tables.{specs.{Drains.{Drains, only_on}, Ends.is_new}, proofs.{Changes.others_left, Logs.none_on_any, Goes.drops}}
use Rattle.laws_device.specs.Carried.Streamed.{AreCounted, AreLabelled, AreOlder, AreShaken, AreShakenBut, AreStreamed, HasHand, IsJoined, IsLabelled, IsShaking, IsStreamed, Ports, Seen}
use Rattle.laws_device.specs.Carried.Streamed.{client_waits, connection_of, count_in, gives, heard_at}
use Rattle.laws_device.proofs.Carried.{Hands.{has_pushed, pushes}, Streamed.older_back}
use Rattle.std.{proofs.lemmas.{Bool.Decides.nat_tests, List.Quantifiers.position-Some, Option.{get_or_from_slice_get, slice_get_within}}, specs.Prelude.{position, slice_get}}
use Rattle.vs_outside.specs.Host.{fails_now, is_waiting}
use Rattle.laws_device.{specs.Carried.Streamed.{line_for, look, reading, seen, seen_as, taken_of}, proofs.Carried.Streamed.{one_seen, is_or_not, join_moves, join_of}}
use Rattle.laws_device.proofs.Carried.{Streamed.{moved_streamed, no_entry, one_streamed, recounted, recounted_labels, same_streamed, unlabelled_streamed}, Tabled.stream_stays}
use Rattle.laws_device.proofs.Carried.{Lines.after_longer, Hosts.{changed_seen, counts_more, counts_still, new_look, none_there, others_look, others_seen, there, unseen_none}}
use Rattle.vs_outside.specs.declared.host_net.Accepted.TheVariants as accepted
use Rattle.vs_outside.specs.declared.host_net.StreamRead.TheVariants as read
use Rattle.vs_outside.specs.declared.host_net.StreamState.TheVariants as state
use Rattle.vs_outside.specs.declared.host_net.StreamWrite.TheVariants as write

-- Another host, whose streams look the same.
pub same_host : (c d : HostContents) (log : Log) (port : Ports) (t : Table DeviceConnection) (hands : List Handshake) → ((j : ℕ) → look c j ≡ look d j)
    → d.labelled ≡ c.labelled → d.listening ≡ c.listening → ((f : Flow) → count_in c f ≡ count_in d f) → IsStreamed c log port t hands → IsStreamed d log port t hands
same_host c d log port t hands same labelled listens counts x =
    subst (λ (paths : List (List ℕ)). let p : Ports = record port { serving = record port.serving { listening = paths } } in
    AreStreamed (look d) d.labelled (count_in d) log p t hands) (sym listens)
    (subst (λ (ids : List ℕ). AreStreamed (look d) ids (count_in d) log (heard_at c port) t hands) (sym labelled)
    (recounted (look d) c.labelled (count_in c) (count_in d) log (heard_at c port) t hands counts
    (same_streamed (look c) (look d) c.labelled (count_in c) log log (heard_at c port) same (no_entry (count_in c) log) t hands x)))

pub some_seen : (s t : Seen) → ◌≡◌ {A = Option Seen} (Some s) (Some t) → s ≡ t
some_seen s t is = cc

-- CLOSE: what is seen of a stream that is closed. No line of those that are read is of it.
abbrev shut : Seen → Seen
shut s = record s { waiting = false; closed = true }

module _ (id : ℕ) (c : HostContents) where
  abbrev pub shut_host : HostContents
  shut_host = after_close id c

  -- A stream of then is one of before, or that one.
  record WasSeen (j : ℕ) (u : Seen) : Type 0 where
    pub before : Seen
    pub there : look c j ≡ Some before
    pub how : ((u ≡ before) × (j ≢ id)) ⊎ (u ≡ shut before)

  was_seen : (j : ℕ) (u : Seen) → look shut_host j ≡ Some u → WasSeen j u
  was_seen j u now = is_or_not j id (WasSeen j u) (λ place. here place (stream_at id c) refl) (λ apart.
      record { before = u; there = others_seen id (λ s. record s { state = state.Closed }) c (λ st. refl) j apart ∙ now; how = inl (refl, apart) })
    where
      here : j ≡ id → (o : Option Stream) → stream_at id c ≡ o → WasSeen j u
      here place None none =
          let gone : look c id ≡ None = ap (option_map (seen c id)) none in
          let both : None ≡ Some u = sym gone ∙ ap (look c) (sym place) ∙ unseen_none id (λ s. record s { state = state.Closed }) c none j
          ∙ now in
          absurd cc
      here place (Some st) at = record {
        before = seen c id st;
        there = ap (look c) place ∙ ap (option_map (seen c id)) at;
        how = inr (some_seen u (shut (seen c id st)) (sym now ∙ ap (look shut_host) place
            ∙ changed_seen id (λ s. record s { state = state.Closed }) c (λ st. refl) st at));
      }

  -- And a stream of before is one of then, with its label.
  is_seen : (j : ℕ) (b : Seen) (f : Connection) → look c j ≡ Some b → b.label ≡ Some f
      → (u : Seen) × (look shut_host j ≡ Some u) × (u.label ≡ Some f)
  is_seen j b f was label = is_or_not j id ((u : Seen) × (look shut_host j ≡ Some u) × (u.label ≡ Some f)) (λ place.
      let st = there id c b (ap (look c) (sym place) ∙ was) in (
        shut (seen c id st.stream),
        ap (look shut_host) place ∙ changed_seen id (λ s. record s { state = state.Closed }) c (λ st. refl) st.stream st.at,
        ap (λ (s : Seen). s.label) st.is ∙ label,
      )) (λ apart. (b, sym (others_seen id (λ s. record s { state = state.Closed }) c (λ st. refl) j apart) ∙ was, label))

  pub open_before : (j : ℕ) (u : Seen) → look shut_host j ≡ Some u → u.closed ≡ false → (look c j ≡ Some u) × (j ≢ id)
  open_before j u now still = by (was_seen j u now).before (was_seen j u now).there (was_seen j u now).how
    where
      by : (b : Seen) → look c j ≡ Some b → ((u ≡ b) × (j ≢ id)) ⊎ (u ≡ shut b) → (look c j ≡ Some u) × (j ≢ id)
      by b was (inl (same, apart)) = (was ∙ ap (λ (s : Seen). Some s) (sym same), apart)
      by b was (inr closed) = let both : true ≡ false = sym (ap (λ (s : Seen). s.closed) closed) ∙ still in absurd cc

  shut_older : AreOlder (look c) → AreOlder (look shut_host)
  shut_older = older_back (look c) (look shut_host) (λ j u now busy. (u, (open_before j u now busy.still).0, busy))
      (λ j u now waits. let w = was_seen j u now in (w.before, w.there, by w.before u waits w.how))
    where
      by : (b u : Seen) → u.waiting ≡ true → {i j : ℕ} → ((u ≡ b) × (i ≢ j)) ⊎ (u ≡ shut b) → b.waiting ≡ true
      by b u waits (inl (same, apart)) = ap (λ (s : Seen). s.waiting) (sym same) ∙ waits
      by b u waits (inr closed) = let both : false ≡ true = sym (ap (λ (s : Seen). s.waiting) closed) ∙ waits in absurd cc

  -- It needs no handshake any more.
  pub shut_last : (hands : List Handshake) → AreShakenBut id (look c) hands → AreShaken (look shut_host) hands
  shut_last hands shaken = record {
    hand = λ j u now busy. let before = open_before j u now busy.still in shaken.hand j u before.0 busy before.1;
    older = shut_older shaken.older;
  }

  pub shut_shaken : (hands : List Handshake) → AreShaken (look c) hands → AreShaken (look shut_host) hands
  shut_shaken hands shaken = record {
    hand = λ j u now busy. shaken.hand j u (open_before j u now busy.still).0 busy;
    older = shut_older shaken.older;
  }

  module _ (log : Log) (port : Ports) (hands : List Handshake) (x : AreLabelled (look c) c.labelled (count_in c) log port hands)
      (away : All (λ h. h.stream ≢ id) hands) where
    labels_by : (j : ℕ) (u b : Seen) (f : Connection) → look c j ≡ Some b → ((u ≡ b) × (j ≢ id)) ⊎ (u ≡ shut b) → u.label ≡ Some f
        → (IsLabelled u f (count_in c) log port) × (b.label ≡ Some f)
    labels_by j u b f was (inl (same, apart)) label =
        let before : b.label ≡ Some f = ap (λ (s : Seen). s.label) (sym same) ∙ label in
        (subst (λ (s : Seen). IsLabelled s f (count_in c) log port) (sym same) (x.labels j b f was before), before)
    labels_by j u b f was (inr closed) label =
        let before : b.label ≡ Some f = ap (λ (s : Seen). s.label) (sym closed) ∙ label in
        let old = x.labels j b f was before in (
          subst (λ (s : Seen). IsLabelled s f (count_in c) log port) (sym closed) (record {
            some = old.some;
            most = old.most;
            client = old.client;
            whole = old.whole;
            took = old.took;
            gave = old.gave;
            ported = old.ported;
          }),
          before,
        )

    waits_by : (j : ℕ) (u b : Seen) → look c j ≡ Some b → ((u ≡ b) × (j ≢ id)) ⊎ (u ≡ shut b) → u.waiting ≡ true → u ≡ client_waits
    waits_by j u b was (inl (same, apart)) waits = same ∙ x.waiting j b was (ap (λ (s : Seen). s.waiting) (sym same) ∙ waits)
    waits_by j u b was (inr closed) waits = let both : false ≡ true = sym (ap (λ (s : Seen). s.waiting) closed) ∙ waits in absurd cc

    shut_same : AreLabelled (look shut_host) c.labelled (count_in c) log port hands
    shut_same = record {
      labels = λ j u f now label. let w = was_seen j u now in (labels_by j u w.before f w.there w.how label).0;
      unique = λ i j u v f now also label other.
          let a = was_seen i u now in
          let b = was_seen j v also in
          x.unique i j a.before b.before f a.there b.there (labels_by i u a.before f a.there a.how label).1
          (labels_by j v b.before f b.there b.how other).1;
      every = λ d some most. let b = x.every d some most in let u = is_seen b.0 b.1 d b.2 b.3 in (b.0, u.0, u.1, u.2);
      listed = λ j within. let h = x.listed j within in let u = is_seen j h.stream h.connection h.there h.label in
          record { stream = u.0; connection = h.connection; there = u.1; label = u.2 };
      slots = x.slots;
      counted = x.counted;
      none = λ f without. x.none f (λ j b was label. let u = is_seen j b f was label in without j u.0 u.1 u.2);
      waiting = λ j u now waits. let w = was_seen j u now in waits_by j u w.before w.there w.how waits;
      lines = record {
        read = λ i h within. sym (others_seen id (λ s. record s { state = state.Closed }) c (λ st. refl) (get_or hands i h).stream (away i h within))
            ∙ x.lines.read i h within;
        undecided = x.lines.undecided;
        apart = x.lines.apart;
      };
    }

    pub shut_labels : AreLabelled (look shut_host) c.labelled (count_in shut_host) log port hands
    shut_labels = recounted_labels (look shut_host) c.labelled (count_in c) (count_in shut_host) log port hands
        (counts_still id (λ s. record s { state = state.Closed }) c (λ st. refl)) shut_same

-- The stream closes of no connection.
pub closed_host : (id : ℕ) (c : HostContents) (log : Log) (port : Ports) (t : Table DeviceConnection) (hands : List Handshake)
    → IsStreamed c log port t hands
    → ((s : Seen) → look c id ≡ Some s → s.label ≡ None) → All (λ h. h.stream ≢ id) hands → IsStreamed (after_close id c) log port t hands
closed_host id c log port t hands x free away = record {
  joined = All-weaker (IsJoined (look c) (count_in c) log) (IsJoined (look (shut_host id c)) (count_in (shut_host id c)) log) (λ e j.
      let y = join_moves (look c) (look (shut_host id c)) (count_in c) log log e j
      (sym (others_seen id (λ s. record s { state = state.Closed }) c (λ st. refl) e.value.stream (apart e j)) ∙ j.there) refl refl in
      record {
        stream = y.stream;
        there = y.there;
        label = y.label;
        newest = y.newest ∙ counts_still id (λ s. record s { state = state.Closed }) c (λ st. refl) e.flow;
        client = y.client;
        closed = y.closed;
        drains = y.drains;
        asked = y.asked;
      }) t.entries x.joined;
  tabled = λ j u f now label still. x.tabled j u f (open_before id c j u now still).0 label still;
  streams = shut_labels id c log (heard_at c port) hands x.streams away;
  shaken = λ fresh. shut_shaken id c hands (x.shaken fresh);
}
  where
    apart : (e : DeviceEntry) → IsJoined (look c) (count_in c) log e → e.value.stream ≢ id
    apart e j same =
        let both : Some (connection_of e log) ≡ None = sym j.label ∙ free j.stream (ap (look c) (sym same) ∙ j.there) in absurd cc

-- Bytes behind a whole line.
taken_more : (s : Seen) (more given : List ℕ) (closed : Bool) → (s.by_client ≡ true → has_line s.taken ≡ true)
    → taken_of (record s { taken = s.taken ++ more; given = given; closed = closed }) ≡ taken_of s ++ more
taken_more s more given closed whole = by s.by_client whole
  where
    by : (b : Bool) → (b ≡ true → has_line s.taken ≡ true)
        → cond b (after_line (s.taken ++ more)) (s.taken ++ more) ≡ cond b (after_line s.taken) s.taken ++ more
    by true is = after_longer s.taken more (is refl)
    by false is = refl

-- A connection changes, and is as new as it was: it keeps its number.
pub same_ends : (log : Log) (e : DeviceEntry) (v : DeviceConnection) → is_new v.end ≡ is_new e.value.end → connection_of (record e { value = v }) log ≡ connection_of e log
same_ends log e v new =
    ap (λ (b : Bool). let c : Connection = record { flow = e.flow; number = cond b (number_of Device e.flow log + 1) (number_of Device e.flow log) } in c) new

-- The stream closes of a connection, which is over.
module _ (c : HostContents) (log : Log) (port : Ports) (t : Table DeviceConnection) (hands : List Handshake) (x : IsStreamed c log port t hands)
    (sound : IsTable t) (e : DeviceEntry) (is : Contains t.entries e) where
  abbrev cut : IsJoined (look c) (count_in c) log e
  cut = join_of (look c) c.labelled (count_in c) log (heard_at c port) t hands x e is

  busy : (b : Bool) → cut.stream.waiting ≡ b → b ≡ false
  busy b waits = grind (arith, common_steps)

  pub cut_host : is_new (cut_off e.value).end ≡ is_new e.value.end
      → IsStreamed (after_close e.value.stream c) log port (with_value t e.slot (cut_off e.value)) hands
  cut_host new =
      let s = cut.stream in
      let k : Connection = connection_of e log in
      let st = there e.value.stream c s cut.there in
      let d = after_close e.value.stream c in
      let is_now : look d e.value.stream ≡ Some (record s { taken = s.taken ++ []; given = s.given ++ []; closed = true }) =
      changed_seen e.value.stream (λ y. record y { state = state.Closed }) c (λ y. refl) st.stream st.at
      ∙ ap (λ (y : Seen). Some (shut y)) st.is
      ∙ ap (λ (b : Bool). let r : Seen = record s { waiting = b; closed = true } in Some r) (sym (busy s.waiting refl))
      ∙ ap (λ (b : List ℕ). let r : Seen = record s { taken = b; closed = true } in Some r) (sym (append-nil s.taken))
      ∙ ap (λ (b : List ℕ). let r : Seen = record s { taken = s.taken ++ []; given = b; closed = true } in Some r)
      (sym (append-nil s.given)) in
      let gone = drops (gives e.value.end) (e.value.ok_line ++ e.value.pending) [] s.given
      (line_for e.flow ++ payload_got Device k log) cut.drains in
      recounted (look d) c.labelled (count_in c) (count_in d) log (heard_at c port) (with_value t e.slot (cut_off e.value)) hands
      (counts_still e.value.stream (λ y. record y { state = state.Closed }) c (λ y. refl))
      (moved_streamed (look c) (look d) c.labelled (count_in c) log log (heard_at c port) t hands x sound e is [] [] [] (cut_off e.value) refl refl is_now
      (λ j other. others_seen e.value.stream (λ y. record y { state = state.Closed }) c (λ y. refl) j other)
      (λ f. sym (none_on_any k f (payload_put Device f log)))
      (λ f. sym (none_on_any k f (payload_got Device f log))) (same_ends log e (cut_off e.value) new) (λ f other. refl) (λ f y. y)
      (subst (λ (all : List ℕ). Drains false (s.given ++ []) [] all) (append-nil (line_for e.flow ++ payload_got Device k log)) gone)
      (λ on. absurd cc) (taken_more s [] (s.given ++ []) true (x.streams.labels e.value.stream s k cut.there cut.label).whole))

  -- It leaves, and its stream closes.
  pub closed_left : IsStreamed (after_close e.value.stream c) log port (without t e.slot) hands
  closed_left = record {
    joined = others_left t sound e is (IsJoined (look c) (count_in c) log) (IsJoined (look (shut_host id c)) (count_in (shut_host id c)) log) x.joined
        (λ y other j.
        let z = join_moves (look c) (look (shut_host id c)) (count_in c) log log y j
        (sym (others_seen id (λ s. record s { state = state.Closed }) c (λ st. refl) y.value.stream (apart y other j)) ∙ j.there) refl refl in
        record {
          stream = z.stream;
          there = z.there;
          label = z.label;
          newest = z.newest ∙ counts_still id (λ s. record s { state = state.Closed }) c (λ st. refl) y.flow;
          client = z.client;
          closed = z.closed;
          drains = z.drains;
          asked = z.asked;
        });
    tabled = λ j u k now label still.
        let before = open_before id c j u now still in
        let old = x.tabled j u k before.0 label still in
        (old.0, stream_stays t sound e is old.0 j old.1 before.1);
    streams = shut_labels id c log (heard_at c port) hands x.streams away;
    shaken = λ fresh. shut_shaken id c hands (x.shaken fresh);
  }
    where
      id : ℕ
      id = e.value.stream

      apart : (y : DeviceEntry) → y.flow ≢ e.flow → IsJoined (look c) (count_in c) log y → y.value.stream ≢ id
      apart y other j same =
          let one : j.stream ≡ cut.stream = one_seen (look c) id j.stream cut.stream (ap (look c) (sym same) ∙ j.there) cut.there in
          let both : Some (connection_of y log) ≡ Some (connection_of e log) = sym j.label ∙ ap (λ (s : Seen). s.label) one ∙ cut.label in
          other (flow_of (connection_of y log) (connection_of e log) both)
        where
          flow_of : (a b : Connection) → ◌≡◌ {A = Option Connection} (Some a) (Some b) → a.flow ≡ b.flow
          flow_of a b is = cc

      away : All (λ h. h.stream ≢ id) hands
      away i h within same =
          let line = get_or hands i h in
          let one : reading line.line ≡ cut.stream = one_seen (look c) id (reading line.line) cut.stream (ap (look c) (sym same) ∙ x.streams.lines.read i h within) cut.there in
          let both : None ≡ Some (connection_of e log) = ap (λ (s : Seen). s.label) one ∙ cut.label in absurd cc

-- A client connects.
-- One stream more without a label: which it is, and that the others stay.
module _ (y : Stream) (c : HostContents) (free : y.label ≡ None) where
  abbrev with_one : HostContents
  with_one = record c { streams = c.streams ++ y ∷ [] }

  pub more_back : (j : ℕ) (u : Seen) → look with_one j ≡ Some u
      → (b : Bool) × (b ≡ true → look c j ≡ Some u) × (b ≡ false → (u ≡ seen_as None y) × (look c j ≡ None))
  more_back j u is =
      is_or_not j (length c.streams + 1) ((b : Bool) × (b ≡ true → look c j ≡ Some u) × (b ≡ false → (u ≡ seen_as None y) × (look c j ≡ None))) (λ place. (
        false,
        (λ no. absurd cc),
        λ ok. (
          some_seen u (seen_as None y) (sym is ∙ ap (look with_one) place ∙ new_look y c free),
          ap (look c) place ∙ ap (option_map (seen c (length c.streams + 1))) (none_there y c),
        ),
      )) (λ other. (true, (λ ok. others_look y c free j other ∙ is), λ no. absurd cc))

  pub more_kept : (j : ℕ) (u : Seen) → look c j ≡ Some u → look with_one j ≡ Some u
  more_kept j u is =
      sym (others_look y c free j (λ place.
      let both : None ≡ Some u = sym (ap (look c) place ∙ ap (option_map (seen c (length c.streams + 1))) (none_there y c)) ∙ is in absurd cc)) ∙ is

-- An id that is that of a stream is one of as many as there are.
look_within : (i : ℕ) (c : HostContents) (s : Seen) → look c i ≡ Some s → i < length c.streams + 1
look_within i c s is = let st = there i c s is in by (i == 0) refl st.stream st.at
  where
    by : (b : Bool) → (i == 0) ≡ b → (st : Stream) → cond b None (slice_get c.streams (i - 1)) ≡ Some st → i < length c.streams + 1
    by true zero_is st at = absurd cc
    by false some st at = let less = slice_get_within c.streams (i - 1) st at in omega (arith, less)

pub client_host : (c : HostContents) (log : Log) (port : Ports) (t : Table DeviceConnection) (hands : List Handshake) → IsStreamed c log port t hands
    → IsStreamed (after_client c) log port t hands
client_host c log port t hands x =
    recounted (look (after_client c)) c.labelled (count_in c) (count_in (after_client c)) log (heard_at c port) t hands (counts_more client_stream c refl)
    (unlabelled_streamed (look c) (look (after_client c)) c.labelled (count_in c) log (heard_at c port) t hands hands x
    (λ j u is. let b = more_back client_stream c refl j u is in (b.0, b.1, λ new. (ap (λ (s : Seen). s.label) (b.2 new).0, λ waits. (b.2 new).0)))
    (λ j u f is on. more_kept client_stream c refl j u is)
    (record {
      read = λ i h within. more_kept client_stream c refl (get_or hands i h).stream (reading (get_or hands i h).line)
          (x.streams.lines.read i h within);
      undecided = x.streams.lines.undecided;
      apart = x.streams.lines.apart;
    }) (λ fresh. record {
      hand = λ j u is busy. (x.shaken fresh).hand j u (was j u is busy) busy;
      older = λ i j s u is busy at waits. is_or_not j (length c.streams + 1) (i < j)
          (λ place. let less = look_within i c s (was i s is busy) in omega (arith, place, less))
          (λ other. (x.shaken fresh).older i j s u (was i s is busy) busy (others_look client_stream c refl j other ∙ at) waits);
    }))
  where
    by : (j : ℕ) (u : Seen) → IsShaking u → (b : Bool) → (b ≡ true → look c j ≡ Some u)
        → (b ≡ false → (u ≡ seen_as None client_stream) × (look c j ≡ None)) → look c j ≡ Some u
    by j u busy true old new = old refl
    by j u busy false old new =
        let both : true ≡ false = sym (ap (λ (s : Seen). s.waiting) (new refl).0) ∙ busy.accepted in absurd cc

    was : (j : ℕ) (u : Seen) → look (after_client c) j ≡ Some u → IsShaking u → look c j ≡ Some u
    was j u is busy = let b = more_back client_stream c refl j u is in by j u busy b.0 b.1 b.2

-- The client that is accepted is the oldest one that waits.
accepted_place : (b : Bool) (o : Option ℕ) (id : ℕ)
    → cond b accepted.Failed (option_map_or accepted.Stream (option_map (λ (place : ℕ). place + 1) o) accepted.None) ≡ accepted.Stream id
    → (place : ℕ) × (o ≡ Some place) × (place + 1 ≡ id)
accepted_place b o id is = grind (arith, common_steps)

oldest_first : (id : ℕ) (c : HostContents) → accept_answer c ≡ accepted.Stream id → (j : ℕ) (u : Seen) → look c j ≡ Some u → u.waiting ≡ true → j ≢ id
    → id < j
oldest_first id c answer j u seen_now waiting apart =
    let p = accepted_place (fails_now c) (position is_waiting c.streams) id answer in
    let q = position-Some is_waiting c.streams p.0 client_stream p.1 in
    let st = there j c u seen_now in
    let waits_now : is_waiting st.stream ≡ true = ap (λ (s : Seen). s.waiting) st.is ∙ waiting in
    by p.0 p.2 q.2 st.stream waits_now (j == 0) refl st.at
  where
    by : (place : ℕ) → place + 1 ≡ id → ((k : ℕ) → k < place → is_waiting (get_or c.streams k client_stream) ≡ false) → (st : Stream)
        → is_waiting st ≡ true → (b : Bool) → (j == 0) ≡ b → cond b None (slice_get c.streams (j - 1)) ≡ Some st → id < j
    by place is first st waits_now true zero_is at = absurd cc
    by place is first st waits_now false some at = before (nat_lt (j - 1) place) refl
      where
        before : (b : Bool) → nat_lt (j - 1) place ≡ b → id < j
        before true less =
            let below : j - 1 < place = grind (arith, nat_tests, less) in
            let both : true ≡ false = sym waits_now ∙ ap is_waiting (sym (get_or_from_slice_get c.streams (j - 1) st client_stream at)) ∙ first (j - 1) below in
            absurd cc
        before false not_less = grind (arith, nat_tests, not_less, some, is, apart)

-- ACCEPT: the client's line begins.
pub accepted_host : (id now : ℕ) (c : HostContents) (log : Log) (port : Ports) (t : Table DeviceConnection) (hands : List Handshake)
    → accept_answer c ≡ accepted.Stream id → IsStreamed c log port t hands
    → IsStreamed (after_accept (accepted.Stream id) c) log port t (hands ++ record { stream = id; accepted_at = now; line = [] } ∷ [])
accepted_host id now c log port t hands answer x =
    let a = accepts_waiting id c answer in
    let st = a.0 in
    let d = after_accept (accepted.Stream id) c in
    let waited : waits st.state ≡ true = ap waits a.2 in
    let was : seen c id st ≡ client_waits = x.streams.waiting id (seen c id st) (ap (option_map (seen c id)) a.1) waited in
    let is_now : look d id ≡ Some (reading []) = changed_seen id (λ s. record s { state = state.Open }) (called c) (λ y. refl) st a.1 ∙ ap
    (λ (s : Seen). let r : Seen = record s { waiting = false; closed = false } in Some r) was in
    let others : (j : ℕ) → j ≢ id → look c j ≡ look d j = λ j other. others_seen id (λ s. record s { state = state.Open }) (called c) (λ y. refl) j other in
    recounted (look d) c.labelled (count_in c) (count_in d) log (heard_at c port) t (hands ++ record { stream = id; accepted_at = now; line = [] } ∷ [])
    (counts_still id (λ s. record s { state = state.Open }) (called c) (λ y. refl))
    (one_streamed (look c) (look d) c.labelled (count_in c) log (heard_at c port) t hands (hands ++ record { stream = id; accepted_at = now; line = [] } ∷ []) x id (reading []) is_now
    refl refl (λ b is. ap (λ (s : Seen). s.label) (sym (some_seen (seen c id st) b (sym (ap (option_map (seen c id)) a.1) ∙ is)) ∙ was)) others
    (record {
      read = All-push (λ (h : Handshake). look d h.stream ≡ Some (reading h.line)) hands (record { stream = id; accepted_at = now; line = [] })
          (λ i h within. sym (others (get_or hands i h).stream (λ same. read_apart st was a.1 (get_or hands i h) (ap (look c) (sym same)
          ∙ x.streams.lines.read i h within)))
          ∙ x.streams.lines.read i h within) is_now;
      undecided = All-push (λ (h : Handshake). is_decided CONNECT_MAX h.line ≡ false) hands
          (record { stream = id; accepted_at = now; line = [] }) x.streams.lines.undecided refl;
      apart = all_pairs_push (λ (g : Handshake) (h : Handshake). g.stream ≢ h.stream) hands
          (record { stream = id; accepted_at = now; line = [] }) x.streams.lines.apart
          (λ k h within same. read_apart st was a.1 (get_or hands k h) (ap (look c) (sym same) ∙ x.streams.lines.read k h within));
    }) (λ fresh. record {
      hand = λ j u seen_now busy. is_or_not j id (HasHand (hands ++ record { stream = id; accepted_at = now; line = [] } ∷ []) j)
          (λ place. subst (HasHand (hands ++ record { stream = id; accepted_at = now; line = [] } ∷ [])) (sym place)
          (pushes (record { stream = id; accepted_at = now; line = [] }) hands))
          (λ other. has_pushed j (record { stream = id; accepted_at = now; line = [] }) hands ((x.shaken fresh).hand j u (others j other ∙ seen_now) busy));
      older = λ i j s u is busy at waits.
          let apart : j ≢ id = λ place.
          let one : reading [] ≡ u = some_seen (reading []) u (sym is_now ∙ ap (look d) (sym place) ∙ at) in
          let both : false ≡ true = ap (λ (y : Seen). y.waiting) one ∙ waits in absurd cc in
          let before : look c j ≡ Some u = others j apart ∙ at in
          is_or_not i id (i < j) (λ place. let less = oldest_first id c answer j u before waits apart in omega (arith, place, less))
          (λ other. (x.shaken fresh).older i j s u (others i other ∙ is) busy before waits);
    }))
  where
    read_apart : (st : Stream) → seen c id st ≡ client_waits → stream_at id c ≡ Some st → (h : Handshake) → look c id ≡ Some (reading h.line) → ⊥
    read_apart st was at h is =
        let one : seen c id st ≡ reading h.line = some_seen (seen c id st) (reading h.line) (sym (ap (option_map (seen c id)) at) ∙ is) in
        let both : true ≡ false = sym (ap (λ (s : Seen). s.waiting) was) ∙ ap (λ (s : Seen). s.waiting) one in
        absurd cc

-- READ and WRITE of a connection's stream.
module _ (c : HostContents) (log new : Log) (port : Ports) (t : Table DeviceConnection) (hands : List Handshake) (x : IsStreamed c log port t hands)
    (sound : IsTable t) (e : DeviceEntry) (is : Contains t.entries e) (k : DeviceConnection) (stream : k.stream ≡ e.value.stream)
    (client : k.by_client ≡ e.value.by_client) (closed : k.closed ≡ e.value.closed) where
  abbrev pub joined : IsJoined (look c) (count_in c) log e
  joined = join_of (look c) c.labelled (count_in c) log (heard_at c port) t hands x e is

  abbrev pub its : Connection
  its = connection_of e log

  whole_line : joined.stream.by_client ≡ true → has_line joined.stream.taken ≡ true
  whole_line client = (x.streams.labels e.value.stream joined.stream its joined.there joined.label).whole client

  abbrev with_bytes : List ℕ → List ℕ → Seen
  with_bytes more gave = record joined.stream {
    taken = joined.stream.taken ++ more;
    given = joined.stream.given ++ gave;
    closed = k.closed;
  }

  same_closed : joined.stream.closed ≡ k.closed
  same_closed = joined.closed ∙ sym closed

  pub read_host : (n : ℕ) (bytes : List ℕ) → bytes ≡ next_bytes e.value.stream n c
      → ((d : Connection) → payload_put Device d new ≡ payload_put Device d log ++ only_on its bytes d)
      → ((d : Connection) → payload_got Device d log ≡ payload_got Device d new)
      → connection_of (record e { value = k }) new ≡ its
      → ((f : Flow) → number_of Device f log ≡ number_of Device f new)
      → ((f : Flow) → AreCounted (count_in c) (heard_at c port) log f → AreCounted (count_in c) (heard_at c port) new f)
      → Drains (gives k.end) joined.stream.given (k.ok_line ++ k.pending) (line_for e.flow ++ payload_got Device its log)
      → (k.end.state ≡ Asked → (joined.stream.given ≡ []) × (k.ok_line ≡ []) × (k.pending ≡ []) × (k.closed ≡ false))
      → IsStreamed (after_read e.value.stream (read.Got n) c) new port (with_value t e.slot k) hands
  read_host n bytes next put got keeps number counted drains asked =
      let s = joined.stream in
      let st = there e.value.stream c s joined.there in
      let d = after_read e.value.stream (read.Got n) c in
      let took : bytes ≡ take n st.stream.untaken = next ∙ ap (λ (o : Option Stream). option_map_or (λ (y : Stream). take n y.untaken) o []) st.at in
      let is_now : look d e.value.stream ≡ Some (with_bytes bytes []) =
      changed_seen e.value.stream (take_bytes n) (called c) (λ y. refl) st.stream st.at
      ∙ ap (λ (y : Seen). let r : Seen = record y { taken = y.taken ++ take n st.stream.untaken } in Some r) st.is
      ∙ ap (λ (b : List ℕ). let r : Seen = record s { taken = s.taken ++ b } in Some r) (sym took)
      ∙ ap (λ (b : List ℕ). let r : Seen = record s { taken = s.taken ++ bytes; given = b } in Some r) (sym (append-nil s.given))
      ∙ ap (λ (b : Bool). let r : Seen = record s { taken = s.taken ++ bytes; given = s.given ++ []; closed = b } in Some r) same_closed in
      recounted (look d) c.labelled (count_in c) (count_in d) new (heard_at c port) (with_value t e.slot k) hands
      (counts_still e.value.stream (take_bytes n) (called c) (λ y. refl))
      (moved_streamed (look c) (look d) c.labelled (count_in c) log new (heard_at c port) t hands x sound e is bytes [] [] k stream client is_now
      (λ j other. others_seen e.value.stream (take_bytes n) (called c) (λ y. refl) j other) put
      (λ f. sym (got f) ∙ sym (none_on_any its f (payload_got Device f log))) keeps (λ f other. number f) counted
      (subst (λ (b : List ℕ). Drains (gives k.end) b (k.ok_line ++ k.pending) (line_for e.flow ++ payload_got Device its new)) (sym (append-nil s.given))
      (subst (λ (b : List ℕ). Drains (gives k.end) s.given (k.ok_line ++ k.pending) (line_for e.flow ++ b)) (got its) drains))
      (λ on. subst (λ (b : List ℕ). (b ≡ []) × (k.ok_line ≡ []) × (k.pending ≡ []) × (k.closed ≡ false)) (sym (append-nil s.given))
      (asked on))
      (taken_more s bytes (s.given ++ []) k.closed whole_line))

  pub write_host : (n : ℕ) (bytes : List ℕ) → connection_of (record e { value = k }) log ≡ its
      → Drains (gives k.end) (joined.stream.given ++ take n bytes) (k.ok_line ++ k.pending) (line_for e.flow ++ payload_got Device its log)
      → (k.end.state ≡ Asked → (joined.stream.given ++ take n bytes ≡ []) × (k.ok_line ≡ []) × (k.pending ≡ []) × (k.closed ≡ false))
      → IsStreamed (after_write e.value.stream bytes (write.Took n) c) log port (with_value t e.slot k) hands
  write_host n bytes keeps drains asked =
      let s = joined.stream in
      let st = there e.value.stream c s joined.there in
      let d = after_write e.value.stream bytes (write.Took n) c in
      let is_now : look d e.value.stream ≡ Some (with_bytes [] (take n bytes)) =
      changed_seen e.value.stream (give_bytes n bytes) (called c) (λ y. refl) st.stream st.at
      ∙ ap (λ (y : Seen). let r : Seen = record y { given = y.given ++ take n bytes } in Some r) st.is
      ∙ ap (λ (b : List ℕ). let r : Seen = record s { taken = b; given = s.given ++ take n bytes } in Some r) (sym (append-nil s.taken))
      ∙ ap (λ (b : Bool). let r : Seen = record s { taken = s.taken ++ []; given = s.given ++ take n bytes; closed = b } in Some r)
      same_closed in
      recounted (look d) c.labelled (count_in c) (count_in d) log (heard_at c port) (with_value t e.slot k) hands
      (counts_still e.value.stream (give_bytes n bytes) (called c) (λ y. refl))
      (moved_streamed (look c) (look d) c.labelled (count_in c) log log (heard_at c port) t hands x sound e is [] (take n bytes) [] k stream client is_now
      (λ j other. others_seen e.value.stream (give_bytes n bytes) (called c) (λ y. refl) j other) (λ f. sym (none_on_any its f (payload_put Device f log)))
      (λ f. sym (none_on_any its f (payload_got Device f log))) keeps (λ f other. refl) (λ f y. y) drains asked
      (taken_more s [] (s.given ++ take n bytes) k.closed whole_line))

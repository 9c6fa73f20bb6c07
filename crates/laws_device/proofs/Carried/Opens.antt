-- What the host's streams took and gave, as a line is read and a connection opens.
use Rattle.std.proofs.lemmas.Grind.{common_steps}
use Rattle.std.proofs.Common.{◌≡◌, ◌≢◌, ℕ, zero, suc, ◌+◌, ◌≤◌, ◌==◌, ◌||◌, min, Bool, true, false, cond, List, [], ◌∷◌, ◌++◌, length, take, get_or, Contains, Option, Some, None}
use Rattle.std.proofs.{Common.{refl, sym, ap, subst, ◌∙◌, arith, length-append, ◌⊎◌, inl, inr}, lemmas.{Bool.Decides.nat_tests, Option.{get_or_from_slice_get, slice_get_within}}}
use Rattle.std.specs.{List.{All, find}, Option.{option_map, option_map_or}}
use Rattle.vs_conn.specs.End.{answering, asked}
use Rattle.vs_device_parts.specs.{Connections.new_connection, State.{DeviceConnection, DeviceEntry}}
use Rattle.vs_flow.specs.{Connection.Connection, CleanPairs.without_oldest, Flow.{host_asks, same_flow}, declared.flow.Flow.Flow, Table.{IsTable, Table, entry_of, next_entry}}
use Rattle.vs_flow.{specs.Table.with_entry, proofs.{Entries.{found_passes, none_found, same_flow_true}, Lookups.find_place}}
use Rattle.vs_header.specs.declared.Header.{Header}
use Rattle.laws_history.specs.{History.{Got, gots, puts}, Packets.{has, is_clean_rst, is_request}, declared.packet.Packet.Packet}
use Rattle.vs_limits.specs.declared.TheConstants.{BUF_ALLOC, DEVICE_CONNECTIONS}
use Rattle.vs_outside.specs.Host.{HostContents, Stream, after_close, after_dial, after_label, after_read, called, dialed_stream, fails_now, has_label, next_bytes, read_answer}
use Rattle.vs_outside.{specs.{Host.{read_of, stream_at, take_bytes, with_label_call}, HostBytes.{after_line, has_line}}, proofs.Frames.{keeps_others, stream_at-with_stream}}
use Rattle.vs_page.specs.{Fair.{IsFairLog, current, number_of, payload_got, payload_of, payload_put}, Log.{Device, Log, and_then, flow_got, history_of}}
use Rattle.vs_page.{specs.declared.log.LogEntry.TheVariants.GotPacket, proofs.{Flows.same_self, Present.present_got}}
use Rattle.vs_proxy_parts.specs.{Handshakes.{with_line, without_stream}, State.Handshake}
use Rattle.vs_uds.specs.{OkLine.ok_text, Reading.is_decided, declared.connect.TheConstants.CONNECT_MAX}
use Rattle.laws_tables.{specs.{Drains.Drains, Ends.{AreDistinct, is_among}, Steps.port_after}, proofs.Adding.{got_nothing, put_over_got}}
use Rattle.laws_device.specs.Carried.Streamed.{Serving, heard_at, serves, AreCounted, AreLines, AreOlder, AreShaken, AreShakenBut, AreStreamed, CountMatches, HasHand, IsShaking, IsStreamed}
use Rattle.laws_device.specs.Carried.Streamed.{Ports, Seen, connection_of, count_in, line_for, look, reading}
use Rattle.laws_device.{specs.Carried.Streamed.{seen, seen_as}, proofs.Carried.Hosts.{changed_seen, counts_still, counts_then, here_then, new_there, none_there, others_seen}}
use Rattle.laws_device.proofs.Carried.{Hosts.{others_then, others_there, there}, HostCalls.{closed_host, shut_last, some_seen}, Counted.{IsAsked, counted_on, fewer_served, kept_less, slot_served}}
use Rattle.laws_device.proofs.Carried.{Counted.{number_elsewhere, request_asks}, Streamed.{forgets, not_none, older_back, one_streamed, opened_streamed}}
use Rattle.laws_device.proofs.Carried.{Streamed.{recounted, remembers, unfresh}, Hands.{has_with, has_without, with_all, with_apart, without_all}}
use Rattle.laws_device.proofs.{Carried.Hands.{without_none, without_pairs}, Clean.{port_below, port_rises, removed_among, removed_own}}
use Rattle.vs_header.specs.declared.Kind.TheVariants as kind
use Rattle.vs_outside.specs.declared.host_net.Dialed.TheVariants as dialed
use Rattle.vs_outside.specs.declared.host_net.StreamRead.TheVariants as read

-- A byte is read where there is one.
pub one_byte : (id n : ℕ) (c : HostContents) → read_answer id 1 c ≡ read.Got n → (byte : ℕ) × (next_bytes id n c ≡ byte ∷ [])
one_byte id n c is = by (fails_now c) (stream_at id c) refl is
  where
    of : (st : Stream) (bytes : List ℕ) → st.untaken ≡ bytes
        → cond (length bytes == 0) (cond st.ended read.End read.Again) (read.Got (min 1 (length bytes))) ≡ read.Got n → (byte : ℕ) × (take n bytes ≡ byte ∷ [])
    of st [] is answer = ended st.ended answer
      where
        ended : (b : Bool) → cond b read.End read.Again ≡ read.Got n → (byte : ℕ) × (take n [] ≡ byte ∷ [])
        ended true answer = absurd cc
        ended false answer = absurd cc
    of st (u ∷ us) is answer = some (suc (length us) == 0) (grind (arith, nat_tests)) answer
      where
        some : (b : Bool) → b ≡ false → cond b (cond st.ended read.End read.Again) (read.Got (min 1 (suc (length us)))) ≡ read.Got n
            → (byte : ℕ) × (take n (u ∷ us) ≡ byte ∷ [])
        some true never answer = absurd cc
        some false ok answer =
            let count : min 1 (suc (length us)) ≡ n = cc in
            let one : n ≡ 1 = sym count ∙ omega arith in
            (u, ap (λ (k : ℕ). take k (u ∷ us)) one)

    by : (b : Bool) (o : Option Stream) → stream_at id c ≡ o → cond b read.Failed (option_map_or (read_of 1) o read.Again) ≡ read.Got n
        → (byte : ℕ) × (option_map_or (λ (st : Stream). take n st.untaken) o [] ≡ byte ∷ [])
    by true o at answer = absurd cc
    by false None at answer = absurd cc
    by false (Some st) at answer = of st st.untaken refl answer

-- The handshake of a stream.
pub record IsHand (at : ℕ → Option Seen) (id : ℕ) (h : Handshake) : Type 0 where
  pub stream : h.stream ≡ id
  pub there : at id ≡ Some (reading h.line)
  pub undecided : is_decided CONNECT_MAX h.line ≡ false

pub hand_of : (at : ℕ → Option Seen) (id : ℕ) (hands : List Handshake) (h : Handshake) → AreLines at hands → find (λ (g : Handshake). g.stream == id) hands ≡ Some h
    → IsHand at id h
hand_of at id hands h lines is =
    let place = find_place (λ (g : Handshake). g.stream == id) hands h is in
    let within = slice_get_within hands place.0 h place.1 in
    let get : get_or hands place.0 h ≡ h = get_or_from_slice_get hands place.0 h h place.1 in
    let passes = found_passes (λ (g : Handshake). g.stream == id) hands h is in
    let same : h.stream ≡ id = grind (arith, nat_tests, passes) in
    record {
      stream = same;
      there = ap at (sym same) ∙ subst (λ (g : Handshake). at g.stream ≡ Some (reading g.line)) get (lines.read place.0 h within);
      undecided = subst (λ (g : Handshake). is_decided CONNECT_MAX g.line ≡ false) get (lines.undecided place.0 h within);
    }

-- A handshake ends.
pub without_lines : (at : ℕ → Option Seen) (id : ℕ) (hands : List Handshake) → AreLines at hands → AreLines at (without_stream id hands)
without_lines at id hands x = record {
  read = without_all (λ (h : Handshake). at h.stream ≡ Some (reading h.line)) id hands x.read;
  undecided = without_all (λ (h : Handshake). is_decided CONNECT_MAX h.line ≡ false) id hands x.undecided;
  apart = without_pairs (λ (g : Handshake) (h : Handshake). g.stream ≢ h.stream) id hands x.apart;
}

-- Other lines are read.
other_lines : (c : HostContents) (log : Log) (port : Ports) (t : Table DeviceConnection) (hands lines : List Handshake)
    → IsStreamed c log port t hands
    → AreLines (look c) lines → IsStreamed c log (unfresh port) t lines
other_lines c log port t hands lines x reads = record {
  joined = x.joined;
  tabled = x.tabled;
  streams = record {
    labels = (forgets (look c) c.labelled (count_in c) log (heard_at c port) t hands x).streams.labels;
    unique = x.streams.unique;
    every = x.streams.every;
    listed = x.streams.listed;
    slots = x.streams.slots;
    counted = x.streams.counted;
    none = x.streams.none;
    waiting = x.streams.waiting;
    lines = reads;
  };
  shaken = λ no. absurd cc;
}

pub without_host : (c : HostContents) (log : Log) (port : Ports) (t : Table DeviceConnection) (hands : List Handshake) (id : ℕ)
    → IsStreamed c log port t hands → IsStreamed c log (unfresh port) t (without_stream id hands)
without_host c log port t hands id x = other_lines c log port t hands (without_stream id hands) x
    (without_lines (look c) id hands x.streams.lines)

-- All other streams have their handshakes.
without_shaken : (at : ℕ → Option Seen) (id : ℕ) (hands : List Handshake) → AreShaken at hands → AreShakenBut id at (without_stream id hands)
without_shaken at id hands shaken = record {
  hand = λ j u there busy other. has_without j id hands (shaken.hand j u there busy) other;
  older = shaken.older;
}

-- Its stream is closed.
pub closed_over : (id : ℕ) (c : HostContents) (log : Log) (port : Ports) (t : Table DeviceConnection) (lines : List Handshake)
    → IsStreamed c log (unfresh port) t lines → (port.fresh ≡ true → AreShakenBut id (look c) lines)
    → ((s : Seen) → look c id ≡ Some s → s.label ≡ None) → All (λ h. h.stream ≢ id) lines → IsStreamed (after_close id c) log port t lines
closed_over id c log port t lines x shaken free away =
    remembers (look (after_close id c)) c.labelled (count_in (after_close id c)) log (heard_at (after_close id c) port) t lines
    (closed_host id c log (unfresh port) t lines x free away) (λ fresh. shut_last id c lines (shaken fresh))

-- It ends, and its stream is closed.
pub dropped_host : (c : HostContents) (log : Log) (port : Ports) (t : Table DeviceConnection) (hands : List Handshake) (id : ℕ) (h : Handshake)
    → IsStreamed c log port t hands → IsHand (look c) id h → IsStreamed (after_close id c) log port t (without_stream id hands)
dropped_host c log port t hands id h x hand =
    closed_over id c log port t (without_stream id hands) (without_host c log port t hands id x)
    (λ fresh. without_shaken (look c) id hands (x.shaken fresh))
    (λ s seen_now. ap (λ (y : Seen). y.label) (sym (some_seen (reading h.line) s (sym hand.there ∙ seen_now))))
    (without_none id hands x.streams.lines.apart)

pub first_dropped : (c : HostContents) (log : Log) (port : Ports) (t : Table DeviceConnection) (h : Handshake) (hands : List Handshake)
    → IsStreamed c log port t (h ∷ hands) → IsStreamed (after_close h.stream c) log port t hands
first_dropped c log port t h hands x =
    let here : (h.stream == h.stream) ≡ true = grind arith in
    subst (λ (b : Bool). IsStreamed (after_close h.stream c) log port t (cond b hands (h ∷ without_stream h.stream hands))) here
    (dropped_host c log port t (h ∷ hands) h.stream h x (record {
      stream = refl;
      there = x.streams.lines.read 0 h (omega arith);
      undecided = x.streams.lines.undecided 0 h (omega arith);
    }))

-- A byte more of a line.
module _ (c : HostContents) (log : Log) (port : Ports) (t : Table DeviceConnection) (hands : List Handshake) (x : IsStreamed c log port t hands)
    (id n : ℕ) (h : Handshake) (hand : IsHand (look c) id h) (bytes : List ℕ) (next : bytes ≡ next_bytes id n c) where
  abbrev pub read_on : HostContents
  read_on = after_read id (read.Got n) c

  pub line_now : look read_on id ≡ Some (reading (h.line ++ bytes))
  line_now =
      let s = there id c (reading h.line) hand.there in
      let took : bytes ≡ take n s.stream.untaken = next ∙ ap (λ (o : Option Stream). option_map_or (λ (y : Stream). take n y.untaken) o []) s.at in
      changed_seen id (take_bytes n) (called c) (λ y. refl) s.stream s.at
      ∙ ap (λ (y : Seen). let r : Seen = record y { taken = y.taken ++ take n s.stream.untaken } in Some r) s.is
      ∙ ap (λ (b : List ℕ). Some (reading (h.line ++ b))) (sym took)

  others_now : (j : ℕ) → j ≢ id → look c j ≡ look read_on j
  others_now j other = others_seen id (take_bytes n) (called c) (λ y. refl) j other

  goes_with : (lines : List Handshake) → AreLines (look read_on) lines → (port.fresh ≡ true → AreShaken (look read_on) lines) → IsStreamed read_on log port t lines
  goes_with lines reads shaken =
      recounted (look read_on) c.labelled (count_in c) (count_in read_on) log (heard_at c port) t lines (counts_still id (take_bytes n) (called c) (λ y. refl))
      (one_streamed (look c) (look read_on) c.labelled (count_in c) log (heard_at c port) t hands lines x id (reading (h.line ++ bytes)) line_now refl refl
      (λ b is. ap (λ (s : Seen). s.label) (sym (some_seen (reading h.line) b (sym hand.there ∙ is)))) others_now reads shaken)

  -- Each of the streams was one of those before.
  was_shaken : (j : ℕ) (u : Seen) → look read_on j ≡ Some u → IsShaking u → (v : Seen) × (look c j ≡ Some v) × IsShaking v
  was_shaken j u seen_now busy = grind (arith, common_steps, others_now)

  has_hand : AreShaken (look c) hands → (j : ℕ) (u : Seen) → look read_on j ≡ Some u → IsShaking u → HasHand hands j
  has_hand shaken j u seen_now busy = let v = was_shaken j u seen_now busy in shaken.hand j v.0 v.1 v.2

  still_older : AreOlder (look c) → AreOlder (look read_on)
  still_older = older_back (look c) (look read_on) was_shaken (λ j u seen_now waits. (
    u,
    others_now j (λ place.
        let one : reading (h.line ++ bytes) ≡ u = some_seen (reading (h.line ++ bytes)) u (sym line_now ∙ ap (look read_on) (sym place) ∙ seen_now) in
        let both : false ≡ true = ap (λ (y : Seen). y.waiting) one ∙ waits in absurd cc) ∙ seen_now,
    waits,
  ))

  pub line_more : is_decided CONNECT_MAX (h.line ++ bytes) ≡ false → IsStreamed read_on log port t (with_line id (h.line ++ bytes) hands)
  line_more open_line = goes_with (with_line id (h.line ++ bytes) hands) (record {
    read = with_all (λ (g : Handshake). look c g.stream ≡ Some (reading g.line)) (λ (g : Handshake). look read_on g.stream ≡ Some (reading g.line))
        id (h.line ++ bytes) hands x.streams.lines.apart x.streams.lines.read (λ g same old. ap (look read_on) same ∙ line_now)
        (λ g other old. sym (others_now g.stream other) ∙ old);
    undecided = with_all (λ (g : Handshake). is_decided CONNECT_MAX g.line ≡ false) (λ (g : Handshake). is_decided CONNECT_MAX g.line ≡ false)
        id (h.line ++ bytes) hands x.streams.lines.apart x.streams.lines.undecided (λ g same old. open_line) (λ g other old. old);
    apart = with_apart id (h.line ++ bytes) hands x.streams.lines.apart;
  }) (λ fresh. record {
    hand = λ j u seen_now busy. has_with j id (h.line ++ bytes) hands (has_hand (x.shaken fresh) j u seen_now busy);
    older = still_older (x.shaken fresh).older;
  })

  reads_over : AreLines (look read_on) (without_stream id hands)
  reads_over = record {
    read = λ i g within.
        let away = without_none id hands x.streams.lines.apart i g within in
        let old = without_all (λ (k : Handshake). look c k.stream ≡ Some (reading k.line)) id hands x.streams.lines.read i g within in
        sym (others_now (get_or (without_stream id hands) i g).stream away) ∙ old;
    undecided = without_all (λ (k : Handshake). is_decided CONNECT_MAX k.line ≡ false) id hands x.streams.lines.undecided;
    apart = without_pairs (λ (g : Handshake) (k : Handshake). g.stream ≢ k.stream) id hands x.streams.lines.apart;
  }

  -- All streams but its own have their handshakes.
  pub line_left : port.fresh ≡ true → AreShakenBut id (look read_on) (without_stream id hands)
  line_left fresh = record {
    hand = λ j u seen_now busy other. has_without j id hands (has_hand (x.shaken fresh) j u seen_now busy) other;
    older = still_older (x.shaken fresh).older;
  }

-- A line that is whole.
pub line_over : (c : HostContents) (log : Log) (port : Ports) (t : Table DeviceConnection) (hands : List Handshake) (x : IsStreamed c log port t hands)
    (id n : ℕ) (h : Handshake) (hand : IsHand (look c) id h) (bytes : List ℕ) (next : bytes ≡ next_bytes id n c)
    → IsStreamed (after_read id (read.Got n) c) log (unfresh port) t (without_stream id hands)
line_over c log port t hands x id n h hand bytes next =
    goes_with c log (unfresh port) t hands (forgets (look c) c.labelled (count_in c) log (heard_at c port) t hands x) id n h hand bytes next
    (without_stream id hands) (reads_over c log port t hands x id n h hand bytes next) (λ no. absurd cc)

-- The flow of a connection that is to open has none in the table, and the host lists no stream that has no label.
module _ (c : HostContents) (log : Log) (port : Ports) (t : Table DeviceConnection) (hands : List Handshake) (x : IsStreamed c log port t hands) where
  pub unlisted : (id : ℕ) → ((b : Seen) → look c id ≡ Some b → b.label ≡ None) → Contains c.labelled id → ⊥
  unlisted id free within =
      let h = x.streams.listed id within in
      let both : Some h.connection ≡ None = sym h.label ∙ free h.stream h.there in absurd cc

  -- No stream has the label of a flow whose port is still to come.
  pub none_counted : (f : Flow) → host_asks f ≡ true → port.next ≤ f.host → count_in c f ≡ 0
  none_counted f assigned less = by (count_in c f) refl
    where
      by : (n : ℕ) → count_in c f ≡ n → n ≡ 0
      by zero is = refl
      by (suc n) is =
          let one = x.streams.every (record { flow = f; number = 1 }) (omega arith) (omega (arith, is)) in
          let l = x.streams.labels one.0 one.1 (record { flow = f; number = 1 }) one.2 one.3 in
          let below = l.ported assigned in absurd (omega (arith, below, less))

-- No connection of a table has this flow.
pub none_apart : (t : Table DeviceConnection) (f : Flow) → entry_of t f ≡ None → All (λ e. e.flow ≢ f) t.entries
none_apart t f none i e within same =
    let fails = none_found (λ (y : DeviceEntry). same_flow f y.flow) t.entries none i e within in
    let both : true ≡ false = sym (same_self f) ∙ ap (λ (g : Flow). same_flow f g) (sym same) ∙ fails in absurd cc

-- One more slot is given, and one more stream gets a label.
one_slot : (labelled : List ℕ) (id : ℕ) (v : Serving) → (v.room ≡ DEVICE_CONNECTIONS) × (v.given ≤ length labelled)
    → (v.room ≡ DEVICE_CONNECTIONS) × (v.given + 1 ≤ length (labelled ++ id ∷ []))
one_slot labelled id v slots = let long = length-append labelled (id ∷ []) in let most = slots.1 in (slots.0, omega (arith, long, most))

abbrev pub next_slot : Ports → Ports
next_slot port = record port { serving = record port.serving { given = port.serving.given + 1 } }

-- LABEL: a whole line opens a connection.
module _ (c : HostContents) (log : Log) (port : Ports) (t : Table DeviceConnection) (lines : List Handshake) (x : IsStreamed c log port t lines)
    (id : ℕ) (f : Flow) (line : List ℕ) (here : look c id ≡ Some (reading line)) (away : All (λ h. h.stream ≢ id) lines)
    (whole : has_line line ≡ true) (none_behind : after_line line ≡ []) (inside : host_asks f ≡ true) (sound : IsTable t)
    (alone : entry_of t f ≡ None) (given : (port.next ≤ f.host) ⊎ (is_among f port.clean ≡ true)) (once : AreDistinct port.clean) where
  abbrev after : Ports
  after = record (next_slot port) { next = port_after port.next f.host; clean = without_oldest (same_flow f) port.clean }

  abbrev labelled_now : HostContents
  labelled_now = after_label id f c

  abbrev stream_before : Stream
  stream_before = (there id c (reading line) here).stream

  abbrev stream_now : Stream
  stream_now = record stream_before { label = Some f }

  free : (b : Seen) → look c id ≡ Some b → b.label ≡ None
  free b is = ap (λ (s : Seen). s.label) (sym (some_seen (reading line) b (sym here ∙ is)))

  no_label : has_label id c ≡ false
  no_label = grind (arith, common_steps)

  list_is : labelled_now.labelled ≡ c.labelled ++ id ∷ []
  list_is = ap (λ (b : Bool). cond b c.labelled (c.labelled ++ id ∷ [])) no_label

  others_at : (j : ℕ) → j ≢ id → stream_at j labelled_now ≡ stream_at j c
  others_at j other = keeps_others id (λ y. record y { label = Some f }) (with_label_call id c) j other

  now_at : stream_at id labelled_now ≡ Some stream_now
  now_at = stream_at-with_stream id (λ y. record y { label = Some f }) (with_label_call id c) stream_before (there id c (reading line) here).at

  none_listed : Contains c.labelled id → ⊥
  none_listed = unlisted c log port t lines x id free

  abbrev first : Connection
  first = record { flow = f; number = count_in c f + 1 }

  label_seen : look labelled_now id ≡ Some (record (reading line) { label = Some first })
  label_seen =
      here_then c labelled_now id f list_is others_at stream_now now_at refl none_listed
      ∙ ap (λ (y : Seen). let r : Seen = record y { label = Some first } in Some r) (there id c (reading line) here).is

  others_labelled : (j : ℕ) → j ≢ id → look c j ≡ look labelled_now j
  others_labelled j other = others_then c labelled_now id f list_is others_at stream_now now_at refl none_listed j other

  counts : (g : Flow) → count_in labelled_now g ≡ cond (same_flow g f) (count_in c g + 1) (count_in c g)
  counts = counts_then c labelled_now id f list_is others_at stream_now now_at refl none_listed

  own_count : count_in labelled_now f ≡ count_in c f + 1
  own_count = counts f ∙ ap (λ (b : Bool). cond b (count_in c f + 1) (count_in c f)) (same_self f)

  -- Each stream of the flow has its REQUEST.
  all_asked : count_in c f ≡ number_of Device f log
  all_asked = by given
    where
      counted_inside : CountMatches true (count_in c f) (number_of Device f log) (is_among f port.clean)
          (has is_clean_rst (puts (history_of Device f log)) || serves (heard_at c port).serving log f)
      counted_inside = subst (λ (b : Bool). CountMatches b (count_in c f) (number_of Device f log) (is_among f port.clean)
          (has is_clean_rst (puts (history_of Device f log)) || serves (heard_at c port).serving log f)) inside (x.streams.counted f)

      by : (port.next ≤ f.host) ⊎ (is_among f port.clean ≡ true) → count_in c f ≡ number_of Device f log
      by (inl fresh) =
          let none = none_counted c log port t lines x f inside fresh in let most = counted_inside.0 in omega (arith, most, none)
      by (inr again) = counted_inside.2 again

  new_number : first ≡ connection_of (next_entry t f (new_connection (asked kind.Stream BUF_ALLOC) id true)) log
  new_number = ap (λ (n : ℕ). let d : Connection = record { flow = f; number = n + 1 } in d) all_asked

  fresh_label : (j : ℕ) (u : Seen) → look c j ≡ Some u → u.label ≢ Some first
  fresh_label j u is on = let most = (x.streams.labels j u first is on).most in absurd (omega (arith, most))

  label_counted : (g : Flow) → AreCounted (count_in c) (heard_at c port) log g → AreCounted (count_in labelled_now) (heard_at c after) log g
  label_counted g old = by (same_flow g f) refl (counts g)
    where
      own : host_asks g ≡ true → count_in c g ≡ number_of Device g log → is_among g after.clean ≡ false
          → count_in labelled_now g ≡ count_in c g + 1 → AreCounted (count_in labelled_now) (heard_at c after) log g
      own assigned all none more = subst (λ (b : Bool). CountMatches b (count_in labelled_now g) (number_of Device g log) (is_among g after.clean)
          (has is_clean_rst (puts (history_of Device g log)) || serves (heard_at c after).serving log g))
          (sym assigned) (omega (arith, more, all), omega (arith, more, all), λ is. let both : true ≡ false = sym is ∙ none in absurd cc)

      by : (b : Bool) → same_flow g f ≡ b → count_in labelled_now g ≡ cond b (count_in c g + 1) (count_in c g)
          → AreCounted (count_in labelled_now) (heard_at c after) log g
      by true same more =
          let is : f ≡ g = sym (same_flow_true g f same) in
          own (subst (λ (h : Flow). host_asks h ≡ true) is inside) (subst (λ (h : Flow). count_in c h ≡ number_of Device h log) is all_asked)
          (subst (λ (h : Flow). is_among h after.clean ≡ false) is (removed_own f port.clean once)) more
      by false other stays = subst (λ (n : ℕ). AreCounted (λ h. n) (heard_at c after) log g) (sym stays)
          (kept_less (host_asks g) (count_in c g) (number_of Device g log) (is_among g port.clean) (is_among g after.clean)
          (has is_clean_rst (puts (history_of Device g log))) (serves (heard_at c port).serving log g) (serves (heard_at c after).serving log g)
          (removed_among f g port.clean) (slot_served (heard_at c port).serving log g) old)

  slots_now : (port.serving.room ≡ DEVICE_CONNECTIONS) × (port.serving.given + 1 ≤ length (c.labelled ++ id ∷ []))
  slots_now = one_slot c.labelled id port.serving x.streams.slots

  pub label_host : IsStreamed labelled_now log after (with_entry t f (new_connection (asked kind.Stream BUF_ALLOC) id true)) lines
  label_host =
      let none : payload_put Device first log ≡ [] = x.streams.none first fresh_label in
      subst (λ (ids : List ℕ). AreStreamed (look labelled_now) ids (count_in labelled_now) log (heard_at c after)
      (with_entry t f (new_connection (asked kind.Stream BUF_ALLOC) id true)) lines)
      (sym list_is)
      (opened_streamed (look c) (look labelled_now) c.labelled (count_in c) (count_in labelled_now) log log (heard_at c port) (heard_at c after) t lines lines x id
      (record (reading line) { label = Some first }) first
      (new_connection (asked kind.Stream BUF_ALLOC) id true) label_seen refl refl others_labelled free (port_rises port.next f.host) counts refl (λ g. refl) (λ g. refl)
      (none_apart t f alone) (λ g other. refl) slots_now label_counted sound refl refl
      (record {
        some = omega arith;
        most = omega (arith, own_count);
        client = sym inside;
        whole = λ is. whole;
        took = none ∙ sym none_behind;
        gave = (line_for f ++ payload_got Device first log, refl);
        ported = λ is. port_below port.next f.host;
      })
      (record {
        stream = record (reading line) { label = Some first };
        there = label_seen;
        label = ap (λ (d : Connection). Some d) new_number;
        newest = ap (λ (d : Connection). d.number) (sym new_number) ∙ sym own_count;
        client = sym inside;
        closed = refl;
        drains = record {
          front = (line_for f ++ payload_got Device (connection_of (next_entry t f (new_connection (asked kind.Stream BUF_ALLOC) id true)) log) log, refl);
          whole = λ is. absurd cc;
        };
        asked = λ is. (refl, refl, refl, refl);
      })
      (record {
        read = λ i h within. sym (others_labelled (get_or lines i h).stream (away i h within)) ∙ x.streams.lines.read i h within;
        undecided = x.streams.lines.undecided;
        apart = x.streams.lines.apart;
      }) (λ fresh. record { hand = λ j u there busy other. (x.shaken fresh).hand j u there busy; older = (x.shaken fresh).older }))

  -- It needs no handshake any more.
  pub label_shaken : AreShakenBut id (look c) lines → AreShaken (look labelled_now) lines
  label_shaken shaken = record {
    hand = λ j u seen_now busy. let other = apart j u seen_now busy in shaken.hand j u (others_labelled j other ∙ seen_now) busy other;
    older = older_back (look c) (look labelled_now) (λ j u seen_now busy. (u, others_labelled j (apart j u seen_now busy) ∙ seen_now, busy))
        (λ j u seen_now waits. (
          u,
          others_labelled j (λ place.
              let both : false ≡ true = sym (ap (λ (s : Seen). s.waiting) (it_is j u seen_now place)) ∙ waits in absurd cc) ∙ seen_now,
          waits,
        )) shaken.older;
  }
    where
      it_is : (j : ℕ) (u : Seen) → look labelled_now j ≡ Some u → j ≡ id → u ≡ record (reading line) { label = Some first }
      it_is j u seen_now place = some_seen u (record (reading line) { label = Some first }) (sym seen_now ∙ ap (look labelled_now) place ∙ label_seen)

      apart : (j : ℕ) (u : Seen) → look labelled_now j ≡ Some u → IsShaking u → j ≢ id
      apart j u seen_now busy place = not_none u first (ap (λ (s : Seen). s.label) (it_is j u seen_now place)) busy.free

-- The line's stream had no handshake before.
pub label_over : (c : HostContents) (log : Log) (port : Ports) (t : Table DeviceConnection) (lines : List Handshake) (x : IsStreamed c log (unfresh port) t lines)
    (id : ℕ) (f : Flow) (line : List ℕ) (here : look c id ≡ Some (reading line)) (away : All (λ h. h.stream ≢ id) lines)
    (whole : has_line line ≡ true) (none_behind : after_line line ≡ []) (inside : host_asks f ≡ true) (sound : IsTable t)
    (alone : entry_of t f ≡ None) (given : (port.next ≤ f.host) ⊎ (is_among f port.clean ≡ true)) (once : AreDistinct port.clean)
    → (port.fresh ≡ true → AreShakenBut id (look c) lines)
    → IsStreamed (after_label id f c) log (record (next_slot port) { next = port_after port.next f.host; clean = without_oldest (same_flow f) port.clean })
    (with_entry t f (new_connection (asked kind.Stream BUF_ALLOC) id true)) lines
label_over c log port t lines x id f line here away whole none_behind inside sound alone given once shaken =
    let now : Ports = record (next_slot port) { next = port_after port.next f.host; clean = without_oldest (same_flow f) port.clean } in
    remembers (look (after_label id f c)) (after_label id f c).labelled (count_in (after_label id f c)) log (heard_at (after_label id f c) now)
    (with_entry t f (new_connection (asked kind.Stream BUF_ALLOC) id true)) lines
    (label_host c log (unfresh port) t lines x id f line here away whole none_behind inside sound alone given once)
    (λ fresh. label_shaken c log (unfresh port) t lines x id f line here away whole none_behind inside sound alone given once (shaken fresh))

-- DIAL: a connection opens with a new stream, on a REQUEST after which the log stays fair.
module _ (c : HostContents) (log : Log) (port : Ports) (t : Table DeviceConnection) (hands : List Handshake) (x : IsStreamed c log port t hands)
    (sound : IsTable t) (p : Packet) (fair : IsFairLog Device (GotPacket p ∷ log)) (asks : is_request p ≡ true) (empty : p.payload ≡ [])
    (alone : entry_of t (flow_got Device p) ≡ None) where
  abbrev g : Flow
  g = flow_got Device p

  abbrev new : Log
  new = GotPacket p ∷ log

  abbrev new_stream : Stream
  new_stream = dialed_stream g c.prepared

  abbrev new_id : ℕ
  new_id = length c.streams + 1

  abbrev dialed_now : HostContents
  dialed_now = after_dial g (dialed.Stream new_id) c

  asked_then : IsAsked (count_in c) log p
  asked_then = request_asks p log (count_in c) (heard_at c port) fair asks (x.streams.counted g)

  nothing_before : (b : Seen) → look c new_id ≡ Some b → b.label ≡ None
  nothing_before b is = let both : None ≡ Some b = sym (ap (option_map (seen c new_id)) (none_there new_stream c)) ∙ is in absurd cc

  dial_unlisted : Contains c.labelled new_id → ⊥
  dial_unlisted = unlisted c log port t hands x new_id nothing_before

  others_at_dial : (j : ℕ) → j ≢ new_id → stream_at j dialed_now ≡ stream_at j c
  others_at_dial j other = others_there new_stream c j other

  abbrev next_one : Connection
  next_one = record { flow = g; number = count_in c g + 1 }

  dialed_seen : look dialed_now new_id ≡ Some (seen_as (Some next_one) (dialed_stream g c.prepared))
  dialed_seen = here_then c dialed_now new_id g refl others_at_dial new_stream (new_there new_stream c) refl dial_unlisted

  others_dialed : (j : ℕ) → j ≢ new_id → look c j ≡ look dialed_now j
  others_dialed j other = others_then c dialed_now new_id g refl others_at_dial new_stream (new_there new_stream c) refl dial_unlisted j other

  dial_counts : (f : Flow) → count_in dialed_now f ≡ cond (same_flow f g) (count_in c f + 1) (count_in c f)
  dial_counts = counts_then c dialed_now new_id g refl others_at_dial new_stream (new_there new_stream c) refl dial_unlisted

  dial_count : count_in dialed_now g ≡ count_in c g + 1
  dial_count = dial_counts g ∙ ap (λ (b : Bool). cond b (count_in c g + 1) (count_in c g)) (same_self g)

  fresh_dial : (j : ℕ) (u : Seen) → look c j ≡ Some u → u.label ≢ Some next_one
  fresh_dial j u is on = let most = (x.streams.labels j u next_one is on).most in absurd (omega (arith, most))

  number_now : count_in c g + 1 ≡ number_of Device g new
  number_now = ap (λ (n : ℕ). n + 1) asked_then.all ∙ sym asked_then.next

  now_is : next_one ≡ current Device g new
  now_is = ap (λ (n : ℕ). let d : Connection = record { flow = g; number = n } in d) number_now

  -- Nothing came there but the REQUEST.
  nothing_came : payload_got Device next_one new ≡ []
  nothing_came =
      ap (λ (d : Connection). payload_got Device d new) now_is ∙ present_got Device g new (fair g)
      ∙ ap (λ (b : Bool). payload_of (gots (cond b (and_then (Got p) (history_of Device g log)) (history_of Device g log)))) (same_self g)
      ∙ ap (λ (b : Bool). payload_of (gots (cond b (Got p ∷ []) (Got p ∷ history_of Device g log)))) asks
      ∙ empty

  dial_counted : (f : Flow) → AreCounted (count_in c) (heard_at c port) log f → AreCounted (count_in dialed_now) (heard_at c (next_slot port)) new f
  dial_counted f old = by (same_flow f g) refl (dial_counts f)
    where
      own : host_asks f ≡ false → count_in dialed_now f ≡ number_of Device f new → AreCounted (count_in dialed_now) (heard_at c (next_slot port)) new f
      own guest all = subst (λ (b : Bool). CountMatches b (count_in dialed_now f) (number_of Device f new) (is_among f port.clean)
          (has is_clean_rst (puts (history_of Device f new)) || serves (heard_at c (next_slot port)).serving new f))
          (sym guest) (omega (arith, all), λ marked. all)

      by : (b : Bool) → same_flow f g ≡ b → count_in dialed_now f ≡ cond b (count_in c f + 1) (count_in c f) → AreCounted (count_in dialed_now) (heard_at c (next_slot port)) new f
      by true same more =
          let is : g ≡ f = sym (same_flow_true f g same) in
          own (subst (λ (h : Flow). host_asks h ≡ false) is asked_then.guest)
          (more ∙ subst (λ (h : Flow). count_in c h + 1 ≡ number_of Device h new) is number_now)
      by false other stays = subst (λ (n : ℕ). AreCounted (λ h. n) (heard_at c (next_slot port)) new f) (sym stays)
          (fewer_served (count_in c) (heard_at c port) (heard_at c (next_slot port)) new f refl (slot_served (heard_at c port).serving new f)
          (counted_on p log (count_in c) (heard_at c port) f (λ own. let both : true ≡ false = sym own ∙ other in absurd cc) old))

  no_first_line : line_for g ≡ []
  no_first_line = ap (λ (b : Bool). cond b (ok_text g.host) []) asked_then.guest

  pub dial_host : (h : Header) → IsStreamed dialed_now new (next_slot port) (with_entry t g (new_connection (answering kind.Stream BUF_ALLOC h) new_id false)) hands
  dial_host h =
      let none_put : payload_put Device next_one new ≡ [] = put_over_got Device p log next_one ∙ x.streams.none next_one fresh_dial in
      let all : line_for g ++ payload_got Device next_one new ≡ [] = ap (λ (bytes : List ℕ). bytes ++ payload_got Device next_one new) no_first_line ∙ nothing_came in
      opened_streamed (look c) (look dialed_now) c.labelled (count_in c) (count_in dialed_now) log new (heard_at c port) (heard_at c (next_slot port)) t hands hands x new_id
      (seen_as (Some next_one) (dialed_stream g c.prepared)) next_one
      (new_connection (answering kind.Stream BUF_ALLOC h) new_id false) dialed_seen refl refl others_dialed nothing_before
      (omega arith) dial_counts refl (λ d. sym (put_over_got Device p log d)) (got_nothing Device p log empty) (none_apart t g alone)
      (number_elsewhere p log) (one_slot c.labelled new_id port.serving x.streams.slots) dial_counted sound refl refl
      (record {
        some = omega arith;
        most = omega (arith, dial_count);
        client = sym asked_then.guest;
        whole = λ is. absurd cc;
        took = none_put;
        gave = (line_for g ++ payload_got Device next_one new, refl);
        ported = λ is. let both : true ≡ false = sym is ∙ asked_then.guest in absurd cc;
      })
      (record {
        stream = seen_as (Some next_one) (dialed_stream g c.prepared);
        there = dialed_seen;
        label = ap (λ (d : Connection). Some d) now_is;
        newest = sym number_now ∙ sym dial_count;
        client = sym asked_then.guest;
        closed = refl;
        drains = subst (λ (d : Connection). Drains true [] [] (line_for g ++ payload_got Device d new)) now_is
            (record { front = (line_for g ++ payload_got Device next_one new, refl); whole = λ is. sym all });
        asked = λ is. absurd cc;
      })
      (record {
        read = λ i k within. sym (others_dialed (get_or hands i k).stream (λ place.
            let seen_there = ap (look c) (sym place) ∙ x.streams.lines.read i k within in
            let both : None ≡ Some (reading (get_or hands i k).line) = sym (ap (option_map (seen c new_id)) (none_there new_stream c)) ∙ seen_there in absurd cc))
            ∙ x.streams.lines.read i k within;
        undecided = x.streams.lines.undecided;
        apart = x.streams.lines.apart;
      }) (λ fresh. record { hand = λ j u there busy other. (x.shaken fresh).hand j u there busy; older = (x.shaken fresh).older })

-- What the host's streams took and gave, through the small changes of the device.
use Rattle.vs_flow.specs.{CleanPairs.{kept, kept_if}, Table.{IsTable, Table, entry_of, with_value, without}, Flow.{host_asks, same_flow}, declared.flow.Flow.Flow, Connection.Connection}
use Rattle.vs_flow.proofs.Entries.{same_flow_true}
use Rattle.std.proofs.Common.{◌≡◌, ◌≢◌, ℕ, ◌+◌, ◌-◌, ◌≤◌, ◌&&◌, ◌||◌, Bool, true, false, cond, List, [], ◌∷◌, ◌++◌, length, take, drop, Contains, Option, Some, None, refl}
use Rattle.std.proofs.{Common.{sym, ap, subst, ◌∙◌, arith, get_or, ◌⊎◌, inl, inr}, lemmas.{Bool.Decides.nat_tests, Grind.common_steps, List.append-nil}}
use Rattle.std.{proofs.Math.Seq.{drop-nil, take-nil}, specs.{List.{All, filter}, Option.{option_map_or}}}
use Rattle.vs_conn.{specs.{End.{ConnectionEnd, end_after, is_of, is_reset, verdict_of, with_shut, with_payload_sent}, declared.end.Verdict.Verdict}, proofs.Frames.got_asked}
use Rattle.vs_device_parts.specs.{Connections.{after_shut, after_written, cut_off}, State.{DeviceConnection, DeviceEntry}, Transmitting.heard, Streams.to_write}
use Rattle.laws_device.proofs.Carried.Gives.{drop_both, first_of, forwards_asked, forwards_gives, accepted_other, accepts_asked, accepts_response, answered_host, comes_behind}
use Rattle.laws_device.proofs.Carried.Gives.{delivered_other, delivers_gives, gives_delivered, goes_host, hears_gives, kept_empty, response_empty, shut_gives, shuts_asked}
use Rattle.laws_device.proofs.Carried.{Gives.{unanswered_got, forwards_old, shuts_old, stays_old}, HostCalls.{read_host, write_host, closed_left, same_ends, same_host}}
use Rattle.laws_device.proofs.Carried.{Streamed.{join_of, kept_streamed, left_streamed, StaysStill, passed_streamed, same_streamed}, Opens.none_apart}
use Rattle.laws_device.proofs.Carried.{Hosts.{counts_kept, counts_still, look_kept, unseen}, Counted.{Lacks, comes_on, counted_asks, counted_got, counted_put, fewer_served, kept_less, lost_serves, none_lacks}}
use Rattle.laws_device.{proofs.Carried.Counted.{number_put_elsewhere, put_still, request_put}, specs.Carried.Streamed.{client_waits, AreCounted, CountMatches}}
use Rattle.vs_limits.specs.declared.TheConstants.{DEVICE_CONNECTIONS}
use Rattle.laws_device.specs.Carried.Streamed.{heard_at, serves, IsJoined, IsShaking, IsStreamed, Ports, connection_of, count_in, gives, line_for, look, Seen}
use Rattle.laws_history.specs.{Packets.{has, is_clean_rst, is_request, is_response, is_rw}, History.{Answerer, Asker, Got, History, IsFair, Side, gots, puts, MayPut, peer}}
use Rattle.laws_history.specs.{declared.packet.Packet.Packet, Again.AllowsNow}
use Rattle.laws_tables.{specs.{Steps.payload_on, Drains.{Drains, only_on}, Ends.{is_among, is_new}}, proofs.{Entries.kept_among, Fair.{fair_now, own_got_fair}}}
use Rattle.laws_tables.proofs.{Adding.{got_over_put, number_got, number_put, put_adds, put_nothing, put_over_got}, Logs.none_on_any, Goes.{comes_out, Goes, drops, stays_still}}
use Rattle.laws_tables.proofs.Changes.{without_changed}
use Rattle.vs_outside.specs.Host.{after_close, after_failed, after_read, after_shut_write, after_write, called, dial_answer, fails_now, next_bytes, HostContents}
use Rattle.vs_outside.{specs.{Host.{with_shut_write_call, Stream}, HostBytes.is_labelled}, proofs.Frames.stream_at-after_failed}
use Rattle.vs_page.specs.{Held.{IsWhole, packet_held}, Log.{Device, Log, flow_got, flow_put, history_of, side_of, side_by}}
use Rattle.vs_page.specs.{declared.log.LogEntry.TheVariants.{GotPacket, Mark, PutEvent, PutPacket}, Fair.{IsFairLog, IsFairOn, asked_by, current, instance_from, number_of}}
use Rattle.vs_page.{specs.Fair.{payload_got, payload_of, payload_put}, proofs.{Present.present_got}}
use Rattle.vs_header.specs.{declared.{Kind.Kind}}
use Rattle.vs_limits.specs.declared.TheConstants.{CLEAN_PAIRS}
use Rattle.vs_proxy_parts.specs.State.{Handshake}
use Rattle.vs_uds.specs.{ConnectLine.{connect_port, connect_step}, Reading.{is_decided, port_or_bad}, declared.connect.TheConstants.CONNECT_MAX, OkLine.ok_text}
use Rattle.vs_outside.specs.declared.host_net.Dialed.TheVariants as dialed
use Rattle.vs_conn.specs.declared.end.State.TheVariants as state
use Rattle.vs_conn.specs.declared.end.Verdict.TheVariants as verdict
use Rattle.vs_outside.specs.declared.host_net.StreamRead.TheVariants as read
use Rattle.vs_outside.specs.declared.host_net.StreamWrite.TheVariants as write
use Rattle.vs_uds.specs.declared.scan.Step.TheVariants as step

-- Where the host was fresh at first.
abbrev pub StreamedIf : Type 0 → HostContents → Log → Ports → Table DeviceConnection → List Handshake → Type 0
StreamedIf fresh c log port t hands = fresh → IsStreamed c log port t hands

-- What packets carry payload.
pub delivered_rw : (e : ConnectionEnd) (p : Packet) → verdict_of e p.header ≡ verdict.Deliver → is_rw p ≡ true
delivered_rw e p is = grind (arith, nat_tests, common_steps, is)

pub reset_empty : (kind : Kind) (p : Packet) → (is_reset p.header && is_of kind p.header) ≡ true → is_rw p ≡ false
reset_empty kind p is = grind (arith, nat_tests, common_steps, is)

-- The payload of a page that holds an RW.
pub payload_in : (page : List ℕ) (p : Packet) → packet_held page ≡ Some p → is_rw p ≡ true → take p.header.len (drop 44 page) ≡ p.payload
payload_in page p held carries = grind (arith, common_steps)

no_request : (p : Packet) → is_response p ≡ true → is_request p ≡ false
no_request p is = grind (arith, nat_tests, common_steps, is)

-- Calls on the host that fail, and the id of a stream that is dialed.
pub failed_host : (c : HostContents) (log : Log) (port : Ports) (t : Table DeviceConnection) (hands : List Handshake) → IsStreamed c log port t hands
    → IsStreamed (after_failed c) log port t hands
failed_host c log port t hands x = same_host c (after_failed c) log port t hands
    (λ j. look_kept c (after_failed c) list_is same_labels j (stream_at-after_failed j c)) list_is (listens_by (fails_now c)) (counts_kept c (after_failed c) list_is same_labels) x
  where
    labelled_by : (b : Bool) → (cond b (called c) (record (called c) { starved = true })).labelled ≡ c.labelled
    labelled_by true = refl
    labelled_by false = refl

    listens_by : (b : Bool) → (cond b (called c) (record (called c) { starved = true })).listening ≡ c.listening
    listens_by true = refl
    listens_by false = refl

    list_is : (after_failed c).labelled ≡ c.labelled
    list_is = labelled_by (fails_now c)

    same_labels : (f : Flow) (j : ℕ) → is_labelled f (after_failed c) j ≡ is_labelled f c j
    same_labels f j = ap (λ (o : Option Stream). option_map_or (λ s. option_map_or (same_flow f) s.label false) o false) (stream_at-after_failed j c)

pub dialed_id : (path : List ℕ) (stream : ℕ) (c : HostContents) → dial_answer path c ≡ dialed.Stream stream → stream ≡ length c.streams + 1
dialed_id path stream c is = grind (arith, common_steps)

-- A packet without payload was put that is no REQUEST: one that isn't marked, or one of a connection.
abbrev pub MayFollow : Table DeviceConnection → Packet → Type 0
MayFollow t p = (is_clean_rst p ≡ false) ⊎ ((e : DeviceEntry) × Contains t.entries e × (flow_put Device p ≡ e.flow))

pub put_empty : (c : HostContents) (log : Log) (port : Ports) (t : Table DeviceConnection) (hands : List Handshake) (p : Packet) → p.payload ≡ []
    → is_request p ≡ false → MayFollow t p → IsStreamed c log port t hands → IsStreamed c (PutPacket p ∷ log) port t hands
put_empty c log port t hands p none plain may x = same_streamed (look c) (look c) c.labelled (count_in c) log (PutPacket p ∷ log) (heard_at c port) (λ id. refl)
    (put_still_by may) t hands x
  where
    -- Each REQUEST of the flow has its stream, where the flow has a connection.
    all_by : (b : Bool) (n m : ℕ) → cond b (m + 1) m ≡ n → n ≤ m → n ≡ m
    all_by true n m newest most = absurd (omega (arith, newest, most))
    all_by false n m newest most = sym newest

    counted_by : (b : Bool) (f : Flow) (new : Bool) → host_asks f ≡ b → cond new (number_of Device f log + 1) (number_of Device f log) ≡ count_in c f
        → (host_asks f ≡ false → count_in c f ≡ number_of Device f log)
    counted_by b f new is newest outside =
        let counted = subst (λ (b : Bool). CountMatches b (count_in c f) (number_of Device f log) (is_among f port.clean)
        (has is_clean_rst (puts (history_of Device f log)) || serves (heard_at c port).serving log f)) outside
        (x.streams.counted f) in
        all_by new (count_in c f) (number_of Device f log) newest counted.0

    put_still_by : MayFollow t p → StaysStill (count_in c) log (PutPacket p ∷ log)
    put_still_by (inl unmarked) = put_still p log (count_in c) none plain (λ guest. inl unmarked)
    put_still_by (inr (e, there, flow)) =
        let j = join_of (look c) c.labelled (count_in c) log (heard_at c port) t hands x e there in
        put_still p log (count_in c) none plain (λ guest. inr (subst (λ (f : Flow). host_asks f ≡ false → count_in c f ≡ number_of Device f log) (sym flow)
        (counted_by (host_asks e.flow) e.flow (is_new e.value.end) refl j.newest) guest))

-- A REQUEST was put or got on a connection before and after a packet that is none: it keeps its number.
both_old : (log new : Log) (e : DeviceEntry) (v : DeviceConnection) → is_new v.end ≡ false → is_new e.value.end ≡ false
    → number_of Device e.flow log ≡ number_of Device e.flow new → connection_of (record e { value = v }) new ≡ connection_of e log
both_old log new e v now old number = grind (arith, common_steps)

-- Such a connection is the present one of its flow.
present_old : (log : Log) (e : DeviceEntry) → is_new e.value.end ≡ false → current Device e.flow log ≡ connection_of e log
present_old log e old =
    ap (λ (b : Bool). let c : Connection = record { flow = e.flow; number = cond b (number_of Device e.flow log + 1) (number_of Device e.flow log) } in c) (sym old)

-- A packet that isn't a REQUEST where it is of a connection's flow leaves the connection's number.
number_kept : (p : Packet) (log : Log) (f : Flow) → (f ≡ flow_got Device p → is_request p ≡ false) → number_of Device f log ≡ number_of Device f (GotPacket p ∷ log)
number_kept p log f plain = grind (arith, common_steps)

module _ (c : HostContents) (log : Log) (port : Ports) (t : Table DeviceConnection) (hands : List Handshake) (x : IsStreamed c log port t hands) (sound : IsTable t) where
  -- A connection decides something.
  pub decides_streams : (e : DeviceEntry) → Contains t.entries e → (k : DeviceConnection) → k.stream ≡ e.value.stream → k.by_client ≡ e.value.by_client
      → k.closed ≡ e.value.closed → is_new k.end ≡ is_new e.value.end → Goes (gives e.value.end) (gives k.end) (e.value.ok_line ++ e.value.pending)
      (k.ok_line ++ k.pending) [] []
      → (k.end.state ≡ state.Asked → e.value.end.state ≡ state.Asked) → (e.value.ok_line ≡ [] → k.ok_line ≡ []) → (e.value.pending ≡ [] → k.pending ≡ [])
      → IsStreamed c log port (with_value t e.slot k) hands
  decides_streams e is k stream client closed new goes asks ok pending =
      goes_host c log log port t hands x sound e is k stream client closed [] (λ d. refl)
      (λ d. sym (none_on_any (connection_of e log) d (payload_got Device d log))) (same_ends log e k new) (λ f other. refl) (λ f y. y)
      goes (λ on. (asks on, ok, pending))

  pub cuts_streams : (e : DeviceEntry) → Contains t.entries e → is_new e.value.end ≡ false → e.value.closed ≡ true
      → IsStreamed c log port (with_value t e.slot (cut_off e.value)) hands
  cuts_streams e is old shut = decides_streams e is (cut_off e.value) refl refl (sym shut) (sym old)
      (drops (gives e.value.end) (e.value.ok_line ++ e.value.pending) [])
      (λ on. absurd cc) (λ none. refl) (λ none. refl)

  pub shuts_streams : (e : DeviceEntry) (bits now : ℕ) → Contains t.entries e → is_new e.value.end ≡ false
      → IsStreamed c log port (with_value t e.slot (after_shut bits now e.value)) hands
  shuts_streams e bits now is old = decides_streams e is (after_shut bits now e.value) refl refl refl
      (shuts_old e.value.end bits old ∙ sym old)
      (shut_gives e.value.end bits e.value.ok_line e.value.pending)
      (shuts_asked e.value.end bits) (kept_empty (with_shut e.value.end bits).own.receive e.value.ok_line)
      (kept_empty (with_shut e.value.end bits).own.receive e.value.pending)

  -- Its end alone changes.
  pub ends_streams : (e : DeviceEntry) → Contains t.entries e → (k : DeviceConnection) → k.stream ≡ e.value.stream → k.by_client ≡ e.value.by_client
      → k.closed ≡ e.value.closed → is_new k.end ≡ is_new e.value.end → (k.ok_line ≡ e.value.ok_line) → k.pending ≡ e.value.pending
      → (gives k.end ≡ true → gives e.value.end ≡ true)
      → (k.end.state ≡ state.Asked → e.value.end.state ≡ state.Asked) → IsStreamed c log port (with_value t e.slot k) hands
  ends_streams e is k stream client closed new ok pending less asks = decides_streams e is k stream client closed new
      (subst (λ (line : List ℕ). Goes (gives e.value.end) (gives k.end) (e.value.ok_line ++ e.value.pending) (line ++ k.pending) [] []) (sym ok)
      (subst (λ (bytes : List ℕ). Goes (gives e.value.end) (gives k.end) (e.value.ok_line ++ e.value.pending) (e.value.ok_line ++ bytes) [] []) (sym pending)
      (stays_still (gives e.value.end) (gives k.end) (e.value.ok_line ++ e.value.pending) [] less (λ on. refl)))) asks (λ none. ok ∙ none) (λ none. pending ∙ none)

  -- Its REQUEST is put.
  pub asks_streams : (e : DeviceEntry) → Contains t.entries e → (k : DeviceConnection) → k.stream ≡ e.value.stream → k.by_client ≡ e.value.by_client
      → k.closed ≡ e.value.closed → is_new e.value.end ≡ true → is_new k.end ≡ false → (k.ok_line ≡ e.value.ok_line) → k.pending ≡ e.value.pending
      → (gives k.end ≡ true → gives e.value.end ≡ true) → (k.end.state ≡ state.Asked → e.value.end.state ≡ state.Asked)
      → (p : Packet) → is_request p ≡ true → p.payload ≡ [] → flow_put Device p ≡ e.flow → e.value.by_client ≡ true → is_among e.flow port.clean ≡ false
      → IsStreamed c (PutPacket p ∷ log) port (with_value t e.slot k) hands
  asks_streams e is k stream client closed was now ok pending less asks p request none flow by_client unkept =
      let its : Connection = connection_of e log in
      let j = join_of (look c) c.labelled (count_in c) log (heard_at c port) t hands x e is in
      let own : host_asks e.flow ≡ true = sym j.client ∙ by_client in
      let after : connection_of (record e { value = k }) (PutPacket p ∷ log) ≡ its =
      ap (λ (b : Bool). let n = number_of Device e.flow (PutPacket p ∷ log) in
      let d : Connection = record { flow = e.flow; number = cond b (n + 1) n } in d) now
      ∙ ap (λ (n : ℕ). let d : Connection = record { flow = e.flow; number = n } in d) (request_put p log e.flow request (sym flow) own)
      ∙ ap (λ (b : Bool). let d : Connection = record { flow = e.flow; number = cond b (number_of Device e.flow log + 1) (number_of Device e.flow log) } in d) (sym was) in
      let next : number_of Device e.flow log + 1 ≡ count_in c e.flow =
      ap (λ (b : Bool). cond b (number_of Device e.flow log + 1) (number_of Device e.flow log)) (sym was) ∙ j.newest in
      goes_host c log (PutPacket p ∷ log) port t hands x sound e is k stream client closed [] (put_nothing Device p log none)
      (λ d. got_over_put Device p log d ∙ sym (none_on_any its d (payload_got Device d log))) after
      (λ f other. number_put_elsewhere p log f (λ same. other (same ∙ flow)))
      (counted_asks p log (count_in c) (heard_at c port) request (subst (λ (f : Flow). host_asks f ≡ true) (sym flow) own)
      (subst (λ (f : Flow). number_of Device f log + 1 ≤ count_in c f) (sym flow) (omega (arith, next)))
      (subst (λ (f : Flow). is_among f port.clean ≡ false) (sym flow) unkept))
      (subst (λ (line : List ℕ). Goes (gives e.value.end) (gives k.end) (e.value.ok_line ++ e.value.pending) (line ++ k.pending) [] []) (sym ok)
      (subst (λ (bytes : List ℕ). Goes (gives e.value.end) (gives k.end) (e.value.ok_line ++ e.value.pending) (e.value.ok_line ++ bytes) [] []) (sym pending)
      (stays_still (gives e.value.end) (gives k.end) (e.value.ok_line ++ e.value.pending) [] less (λ on. refl))))
      (λ on. (asks on, (λ empty. ok ∙ empty), λ empty. pending ∙ empty))

  -- A packet came, and the log is fair with it.
  module _ (p : Packet) (whole : IsWhole p) (was : IsFairLog Device log) (fair : IsFairLog Device (GotPacket p ∷ log)) where
    put_same : (d : Connection) → payload_put Device d log ≡ payload_put Device d (GotPacket p ∷ log)
    put_same d = sym (put_over_got Device p log d)

    module _ (e : DeviceEntry) (is : Contains t.entries e) (flow : flow_got Device p ≡ e.flow) (plain : is_request p ≡ false) (old : is_new e.value.end ≡ false) where
      got_here : (d : Connection) → payload_got Device d (GotPacket p ∷ log) ≡ payload_got Device d log ++ only_on (connection_of e log) p.payload d
      got_here d = comes_on p log whole was fair d
          ∙ ap (λ (k : Connection). payload_got Device d log ++ only_on k p.payload d) (ap (λ (f : Flow). current Device f log) flow ∙ present_old log e old)

      number_same : (f : Flow) → number_of Device f log ≡ number_of Device f (GotPacket p ∷ log)
      number_same f = sym (number_got Device p log f plain)

      heard_here : (v : DeviceConnection) → v.end ≡ end_after e.value.end p.header → connection_of (record e { value = v }) (GotPacket p ∷ log) ≡ connection_of e log
      heard_here v end = both_old log (GotPacket p ∷ log) e v (ap is_new end ∙ stays_old e.value.end p.header old) old (number_same e.flow)

      pub hears_streams : (v : Verdict) → verdict_of e.value.end p.header ≡ v → (v ≡ verdict.Accept → ⊥) → (v ≡ verdict.Deliver → ⊥)
          → IsStreamed c (GotPacket p ∷ log) port (with_value t e.slot (heard p.header e.value)) hands
      hears_streams v now other undelivered = goes_host c log (GotPacket p ∷ log) port t hands x sound e is
          (heard p.header e.value) refl refl refl p.payload put_same
          got_here (heard_here (heard p.header e.value) refl) (λ f apart. number_same f)
          (counted_got p log (count_in c) (heard_at c port) (none_lacks (heard_at c port).serving p log plain))
          (stays_still (gives e.value.end) (gives (end_after e.value.end p.header)) (e.value.ok_line ++ e.value.pending) p.payload
          (hears_gives e.value.end p.header v now other) (λ on. whole.none (gives_delivered e.value.end p v now undelivered on)))
          (λ on. (got_asked e.value.end p.header on, (λ none. none), λ none. none))

      pub delivers_streams : (payload : List ℕ) → payload ≡ p.payload → verdict_of e.value.end p.header ≡ verdict.Deliver
          → IsStreamed c (GotPacket p ∷ log) port (with_value t e.slot (record (heard p.header e.value) { pending = e.value.pending ++ payload })) hands
      delivers_streams payload same now = goes_host c log (GotPacket p ∷ log) port t hands x sound e is
          (record (heard p.header e.value) { pending = e.value.pending ++ payload }) refl refl refl p.payload put_same got_here
          (heard_here (record (heard p.header e.value) { pending = e.value.pending ++ payload }) refl) (λ f apart. number_same f)
          (counted_got p log (count_in c) (heard_at c port) (none_lacks (heard_at c port).serving p log plain))
          (subst (λ (bytes : List ℕ). Goes (gives e.value.end) (gives (end_after e.value.end p.header)) (e.value.ok_line ++ e.value.pending)
          (e.value.ok_line ++ (e.value.pending ++ bytes)) [] p.payload) (sym same)
          (comes_behind (gives e.value.end) (gives (end_after e.value.end p.header)) e.value.ok_line e.value.pending p.payload
          (delivers_gives e.value.end p.header now)))
          (λ on. absurd (delivered_other e.value.end p.header now on))

      -- RESPONSE, before which no payload came.
      pub accepts_streams : e.value.by_client ≡ host_asks e.flow → (line : List ℕ)
          → line ≡ cond e.value.by_client (ok_text e.flow.host) [] → verdict_of e.value.end p.header ≡ verdict.Accept
          → IsStreamed c (GotPacket p ∷ log) port (with_value t e.slot (record (heard p.header e.value) { ok_line = line })) hands
      accepts_streams client line written now =
          answered_host c log (GotPacket p ∷ log) port t hands x sound e is (record (heard p.header e.value) { ok_line = line }) refl refl
          refl p.payload put_same got_here
          (heard_here (record (heard p.header e.value) { ok_line = line }) refl) (λ f apart. number_same f)
          (counted_got p log (count_in c) (heard_at c port) (none_lacks (heard_at c port).serving p log plain))
          (accepts_asked e.value.end p.header now)
          (ap (λ (k : Connection). payload_got Device k log) (sym (present_old log e old)) ∙ present_got Device e.flow log (was e.flow)
          ∙ nothing (side_of Device e.flow) (history_of Device e.flow log) (accepts_response e.value.end p now) older fair_here)
          (whole.none (response_empty p (accepts_response e.value.end p now))) (written ∙ ap (λ (b : Bool). cond b (ok_text e.flow.host) []) client) refl
          (accepted_other e.value.end p.header now)
        where
          two : IsFairOn Device e.flow log × AllowsNow (side_of Device e.flow) (history_of Device e.flow log) (Got p)
          two = subst (λ (g : Flow). IsFairOn Device g log × AllowsNow (side_of Device g) (history_of Device g log) (Got p)) flow
              (own_got_fair Device p log (fair (flow_got Device p)))

          older : IsFair (side_of Device e.flow) (history_of Device e.flow log)
          older = fair_now Device e.flow log two.0

          fair_here : MayPut (peer (side_of Device e.flow)) (gots (history_of Device e.flow log)) (puts (history_of Device e.flow log)) p
          fair_here = two.1.goes_on (no_request p (accepts_response e.value.end p now))

          nothing : (side : Side) (h : History) → is_response p ≡ true → IsFair side h → MayPut (peer side) (gots h) (puts h) p → payload_of (gots h) ≡ []
          nothing Asker h response fair may = unanswered_got h fair (first_response h response may)
            where
              first_response : (h : History) → is_response p ≡ true → MayPut Answerer (gots h) (puts h) p → has is_response (gots h) ≡ false
              first_response h response may = let timely = may.timely in grind (arith, nat_tests, common_steps, response, timely)
          nothing Answerer h response fair may = absurd (never h response may)
            where
              never : (h : History) → is_response p ≡ true → MayPut Asker (gots h) (puts h) p → ⊥
              never h response may = let timely = may.timely in absurd (grind (arith, nat_tests, common_steps, response, timely))

    -- On a flow none of whose connections is given it.
    pub passes_streams : All (λ e. e.flow ≡ flow_got Device p → gives e.value.end ≡ true → p.payload ≡ []) t.entries
        → All (λ e. e.flow ≡ flow_got Device p → is_request p ≡ false) t.entries → Lacks (heard_at c port).serving p log → IsStreamed c (GotPacket p ∷ log) port t hands
    passes_streams idle plain lacks = passed_streamed (look c) c.labelled (count_in c) log (GotPacket p ∷ log) (heard_at c port) t hands x (current Device (flow_got Device p) log)
        p.payload put_same (comes_on p log whole was fair) (λ i e within. number_kept p log (get_or t.entries i e).flow (plain i e within))
        (counted_got p log (count_in c) (heard_at c port) lacks) idle

    pub unknown_streams : entry_of t (flow_got Device p) ≡ None → Lacks (heard_at c port).serving p log → IsStreamed c (GotPacket p ∷ log) port t hands
    unknown_streams none = passes_streams (λ i e within on. absurd (none_apart t (flow_got Device p) none i e within on))
        (λ i e within on. absurd (none_apart t (flow_got Device p) none i e within on))

    pub empty_streams : is_rw p ≡ false → is_request p ≡ false → IsStreamed c (GotPacket p ∷ log) port t hands
    empty_streams other plain = passes_streams (λ i e within on given. whole.none other) (λ i e within on. plain)
        (none_lacks (heard_at c port).serving p log plain)

  -- Its flow is kept to be used again, or not: each of its streams has a REQUEST.
  pub keeps_streams : (e : DeviceEntry) → Contains t.entries e → is_new e.value.end ≡ false → (keep : Bool)
      → IsStreamed c log (record port { clean = kept_if keep e.flow port.clean }) t hands
  keeps_streams e is old keep = kept_streamed (look c) c.labelled (count_in c) log (heard_at c port) (heard_at c (record port { clean = kept_if keep e.flow port.clean })) t hands x refl x.streams.slots
      (λ f y. by keep f y) x.shaken
    where
      all : count_in c e.flow ≡ number_of Device e.flow log
      all = sym (join_of (look c) c.labelled (count_in c) log (heard_at c port) t hands x e is).newest
          ∙ ap (λ (b : Bool). cond b (number_of Device e.flow log + 1) (number_of Device e.flow log)) old

      own : (b k : Bool) (f : Flow) (marked : Bool) → count_in c f ≡ number_of Device f log
          → CountMatches b (count_in c f) (number_of Device f log) (is_among f port.clean) marked
          → CountMatches b (count_in c f) (number_of Device f log) k marked
      own true k f marked every y = (y.0, y.1, λ is. every)
      own false k f marked every y = y

      by : (keep : Bool) (f : Flow) → AreCounted (count_in c) (heard_at c port) log f
          → AreCounted (count_in c) (heard_at c (record port { clean = kept_if keep e.flow port.clean })) log f
      by false f y = y
      by true f y = of (same_flow f e.flow) refl
        where
          marked : Bool
          marked = has is_clean_rst (puts (history_of Device f log))

          served : Bool
          served = serves (heard_at c port).serving log f

          of : (s : Bool) → same_flow f e.flow ≡ s → AreCounted (count_in c) (heard_at c (record port { clean = kept CLEAN_PAIRS e.flow port.clean })) log f
          of true same = own (host_asks f) (is_among f (kept CLEAN_PAIRS e.flow port.clean)) f (marked || served)
              (subst (λ (g : Flow). count_in c g ≡ number_of Device g log) (sym (same_flow_true f e.flow same)) all) y
          of false other = kept_less (host_asks f) (count_in c f) (number_of Device f log) (is_among f port.clean)
              (is_among f (kept CLEAN_PAIRS e.flow port.clean)) marked served served (λ is. kept_among e.flow f port.clean is other) (λ is. is) y

  -- No REQUEST is served any more.
  pub lost_streams : (next : Ports) → port.next ≡ next.next → next.clean ≡ port.clean → next.fresh ≡ port.fresh → next.serving.room ≡ port.serving.room
      → next.serving.given ≡ port.serving.given → next.serving.lost ≡ true → IsStreamed c log next t hands
  lost_streams next same clean known room given lost =
      kept_streamed (look c) c.labelled (count_in c) log (heard_at c port) (heard_at c next) t hands x same
      (room ∙ x.streams.slots.0, subst (λ (n : ℕ). n ≤ length c.labelled) (sym given) x.streams.slots.1)
      (λ f. fewer_served (count_in c) (heard_at c port) (heard_at c next) log f clean
      (λ is. let both : true ≡ false = sym is ∙ lost_serves (heard_at c next).serving log f lost in absurd cc)) (λ fresh. x.shaken (sym known ∙ fresh))

  -- A connection leaves, whose stream is closed or closes.
  pub leaves_streams : (e : DeviceEntry) → Contains t.entries e → e.value.closed ≡ true → (k : DeviceConnection)
      → IsStreamed c log port (without (with_value t e.slot k) e.slot) hands
  leaves_streams e is shut k = subst (λ (u : Table DeviceConnection). IsStreamed c log port u hands) (sym (without_changed t e.slot k))
      (left_streamed (look c) c.labelled (count_in c) log (heard_at c port) t hands x sound e is shut)

  pub closes_streams : (e : DeviceEntry) → Contains t.entries e → (k : DeviceConnection)
      → IsStreamed (after_close e.value.stream c) log port (without (with_value t e.slot k) e.slot) hands
  closes_streams e is k = subst (λ (u : Table DeviceConnection). IsStreamed (after_close e.value.stream c) log port u hands) (sym (without_changed t e.slot k))
      (closed_left c log port t hands x sound e is)

  -- Bytes of its stream are read and put; its stream is given bytes.
  pub reads_streams : IsFairLog Device log → (e : DeviceEntry) (is : Contains t.entries e) → is_new e.value.end ≡ false → (n cid : ℕ)
      → let bytes = next_bytes e.value.stream n c in IsFairLog Device (PutPacket (payload_on Device cid e.flow e.value.end bytes) ∷ log)
      → IsStreamed (after_read e.value.stream (read.Got n) c) (PutPacket (payload_on Device cid e.flow e.value.end bytes) ∷ log) port
      (with_value t e.slot (record e.value { end = with_payload_sent e.value.end (length bytes) })) hands
  reads_streams was e is old n cid fair =
      let bytes = next_bytes e.value.stream n c in
      let p = payload_on Device cid e.flow e.value.end bytes in
      let j = join_of (look c) c.labelled (count_in c) log (heard_at c port) t hands x e is in
      let v : DeviceConnection = record e.value { end = with_payload_sent e.value.end (length bytes) } in
      read_host c log (PutPacket p ∷ log) port t hands x sound e is v
      refl refl refl n bytes refl
      (λ d. put_adds Device p log refl was fair d ∙ ap (λ (k : Connection). payload_put Device d log ++ only_on k bytes d) (present_old log e old))
      (λ d. sym (got_over_put Device p log d))
      (both_old log (PutPacket p ∷ log) e v old old (sym (number_put Device p log e.flow refl)))
      (λ f. sym (number_put Device p log f refl))
      (counted_put p log (count_in c) (heard_at c port) refl (λ guest. inl refl)) j.drains j.asked

  pub writes_streams : (e : DeviceEntry) → Contains t.entries e → is_new e.value.end ≡ false → (n : ℕ) → n ≤ length (to_write e.value)
      → IsStreamed (after_write e.value.stream (to_write e.value) (write.Took n) c) log port (with_value t e.slot (after_written n e.value)) hands
  writes_streams e is old n less =
      let j = join_of (look c) c.labelled (count_in c) log (heard_at c port) t hands x e is in
      let its : Connection = connection_of e log in
      let all = e.value.ok_line ++ e.value.pending in
      let k = after_written n e.value in
      let out = comes_out (gives e.value.end) (gives k.end) all n (forwards_gives e.value.end (n - length e.value.ok_line)) j.stream.given
      (line_for e.flow ++ payload_got Device its log) j.drains in
      write_host c log log port t hands x sound e is k refl refl refl n (to_write e.value) (same_ends log e k (forwards_old e.value.end (n - length e.value.ok_line) old ∙ sym old))
      (subst (λ (bytes : List ℕ). Drains (gives k.end) (j.stream.given ++ bytes) (k.ok_line ++ k.pending) (line_for e.flow ++ payload_got Device its log))
      (sym (first_of n all less))
      (subst (λ (bytes : List ℕ). Drains (gives k.end) (j.stream.given ++ take n all) bytes (line_for e.flow ++ payload_got Device its log))
      (drop_both n e.value.ok_line e.value.pending)
      (subst (λ (bytes : List ℕ). Drains (gives k.end) (j.stream.given ++ take n all) (drop n all) bytes)
      (append-nil (line_for e.flow ++ payload_got Device its log)) out)))
      (λ on. nothing e n j.stream.given (j.asked (forwards_asked e.value.end (n - length e.value.ok_line) on)))
    where
      nothing : (e : DeviceEntry) (n : ℕ) (given : List ℕ) → (given ≡ []) × (e.value.ok_line ≡ []) × (e.value.pending ≡ []) ×
          (e.value.closed ≡ false)
          → (given ++ take n (to_write e.value) ≡ []) × (drop n e.value.ok_line ≡ []) × (drop (n - length e.value.ok_line) e.value.pending ≡ [])
          × (e.value.closed ≡ false)
      nothing e n given (a, b, d, still) = (
        ap (λ (bytes : List ℕ). bytes ++ take n (to_write e.value)) a
            ∙ ap (λ (bytes : List ℕ). take n (take 4096 (bytes ++ e.value.pending))) b ∙ ap (λ (bytes : List ℕ). take n (take 4096 bytes)) d
            ∙ ap (take n) (take-nil 4096) ∙ take-nil n,
        ap (drop n) b ∙ drop-nil n,
        ap (drop (n - length e.value.ok_line)) d ∙ drop-nil (n - length e.value.ok_line),
        still,
      )

-- Listeners of the host come and go, where no REQUEST is said to be served.
pub listened_host : (c : HostContents) (paths : List (List ℕ)) (log : Log) (port : Ports) (t : Table DeviceConnection) (hands : List Handshake)
    → port.serving.lost ≡ true → IsStreamed c log port t hands → IsStreamed (record c { listening = paths }) log port t hands
listened_host c paths log port t hands lost x =
    let next : Ports = heard_at (record c { listening = paths }) port in
    kept_streamed (look c) c.labelled (count_in c) log (heard_at c port) next t hands x refl x.streams.slots
    (λ f. fewer_served (count_in c) (heard_at c port) next log f refl (λ is. let both : true ≡ false = sym is ∙ lost_serves next.serving log f lost in absurd cc))
    x.shaken

-- Calls on the host that change no bytes.
pub called_host : (c : HostContents) (log : Log) (port : Ports) (t : Table DeviceConnection) (hands : List Handshake) → IsStreamed c log port t hands
    → IsStreamed (called c) log port t hands
called_host c log port t hands x = same_host c (called c) log port t hands (λ j. refl) refl refl (λ f. refl) x

pub shut_write_host : (id : ℕ) (c : HostContents) (log : Log) (port : Ports) (t : Table DeviceConnection) (hands : List Handshake) → IsStreamed c log port t hands
    → IsStreamed (after_shut_write id c) log port t hands
shut_write_host id c log port t hands x = same_host c (after_shut_write id c) log port t hands
    (unseen id (λ s. record s { write_shut = true }) (with_shut_write_call c) (λ st. refl) (λ o st. refl)) refl refl
    (counts_still id (λ s. record s { write_shut = true }) (with_shut_write_call c) (λ st. refl)) x

-- Entries that are no packets.
pub event_streams : (c : HostContents) (log : Log) (id : ℕ) (port : Ports) (t : Table DeviceConnection) (hands : List Handshake) → IsStreamed c log port t hands
    → IsStreamed c (PutEvent id ∷ log) port t hands
event_streams c log id port t hands x = same_streamed (look c) (look c) c.labelled (count_in c) log (PutEvent id ∷ log) (heard_at c port) (λ j. refl)
    (record { put = λ d. refl; got = λ d. refl; number = λ f. refl; counted = λ kept f y. y }) t hands x

pub mark_streams : (c : HostContents) (log : Log) (cid : ℕ) (port : Ports) (t : Table DeviceConnection) (hands : List Handshake) → IsStreamed c log port t hands
    → IsStreamed c (Mark cid ∷ log) port t hands
mark_streams c log cid port t hands x = same_streamed (look c) (look c) c.labelled (count_in c) log (Mark cid ∷ log) (heard_at c port) (λ j. refl)
    (record { put = λ d. refl; got = λ d. refl; number = λ f. refl; counted = λ kept f y. y }) t hands x

-- A line goes on, where it isn't decided.
pub goes_on : (line : List ℕ) → connect_step line ≡ step.More → is_decided CONNECT_MAX line ≡ false
goes_on line is = by (is_decided 32 line) (connect_port line) is
  where
    by : (b : Bool) (o : Option ℕ) → cond b (port_or_bad o) step.More ≡ step.More → b ≡ false
    by false o is = refl
    by true None is = absurd cc
    by true (Some port) is = absurd cc

-- A host none of whose streams has a label, and a table without connections.
pub no_labels : (c : HostContents) (port : Ports) (t : Table DeviceConnection) → t.entries ≡ [] → (port.serving.given ≡ 0) × (port.serving.room ≡ DEVICE_CONNECTIONS)
    → c.labelled ≡ []
    → ((id : ℕ) (s : Seen) (k : Connection) → look c id ≡ Some s → s.label ≢ Some k)
    → ((id : ℕ) (s : Seen) → look c id ≡ Some s → s.waiting ≡ true → s ≡ client_waits)
    → (port.fresh ≡ true → (id : ℕ) (s : Seen) → look c id ≡ Some s → IsShaking s → ⊥) → IsStreamed c [] port t []
no_labels c port t empty slots unlabelled none waits fresh = record {
  joined = subst (λ (es : List DeviceEntry). All (IsJoined (look c) (count_in c) []) es) (sym empty) (λ i e within. absurd (omega (arith, within)));
  tabled = λ id s k there label. absurd (none id s k there label);
  streams = record {
    labels = λ id s k there label. absurd (none id s k there label);
    unique = λ i j s u k a b p q. absurd (none i s k a p);
    every = λ k some most.
        let none_counted = ap (λ (ids : List ℕ). length (filter (is_labelled k.flow c) ids)) unlabelled in
        absurd (omega (arith, some, most, none_counted));
    listed = λ id within. absurd (nowhere (subst (λ (ids : List ℕ). Contains ids id) unlabelled within));
    slots = (slots.1, subst (λ (n : ℕ). n ≤ length c.labelled) (sym slots.0) (omega arith));
    counted = λ f. subst (λ (ids : List ℕ). AreCounted (λ g. length (filter (is_labelled f c) ids)) (heard_at c port) [] f) (sym unlabelled) (empty_counted f);
    none = λ k without. nothing_put (side_of Device k.flow) k.number;
    waiting = waits;
    lines = record {
      read = λ i h within. absurd (omega (arith, within));
      undecided = λ i h within. absurd (omega (arith, within));
      apart = λ i j h less within. absurd (omega (arith, within));
    };
  };
  shaken = λ is. record {
    hand = λ id s there busy. absurd (fresh is id s there busy);
    older = λ i j s u there busy at waits. absurd (fresh is i s there busy);
  };
}
  where
    nowhere : {id : ℕ} → Contains [] id → ⊥
    nowhere (k, less, is) = absurd (omega (arith, less))

    nothing_put : (side : Side) (k : ℕ) → payload_of (instance_from side k []) ≡ []
    nothing_put Asker k = refl
    nothing_put Answerer k = refl

    empty_counted : (f : Flow) → AreCounted (λ g. 0) (heard_at c port) [] f
    empty_counted f = none_in (host_asks f)
      where
        none_in : (b : Bool) → CountMatches b 0 (asked_by (side_by Device b) [] []) (is_among f port.clean) (serves (heard_at c port).serving [] f)
        none_in true = (omega arith, omega arith, λ kept. refl)
        none_in false = (omega arith, λ served. refl)

-- A host without streams.
pub no_streams : (c : HostContents) (port : Ports) (t : Table DeviceConnection) → t.entries ≡ [] → (port.serving.given ≡ 0) × (port.serving.room ≡ DEVICE_CONNECTIONS) → c.streams ≡ [] → c.labelled ≡ [] → IsStreamed c [] port t []
no_streams c port t empty slots fresh unlabelled = grind (arith, common_steps)

-- What the device keeps as it takes a packet, whose page stands in the log: each verdict, and each end of a REQUEST.
use Rattle.laws_device.proofs.Carried.Changing.{keeps_streams, accepts_streams, called_host, closes_streams, delivered_rw, delivers_streams, dialed_id, empty_streams, failed_host}
use Rattle.laws_device.proofs.Carried.{Changing.{hears_streams, leaves_streams, passes_streams, payload_in, reset_empty, unknown_streams}, Counted.request_empty, Streamed.join_of}
use Rattle.laws_device.proofs.{Carried.Opens.dial_host, Ringing.{Tells, moves, tells_weaker, host_moves, Telling, bytes_held}, Taking.{drops_it, ignores_it}, Sure.{Good, Guard, given_so, good_fair, guard_same}}
use Rattle.laws_device.proofs.{Taking.{leaves_with, opens, replies_to, stays_with}, Tabling.{IsFitConnection, begun_fits, entry_fits, has_end}, Carrying.{Fact, Closes}}
use Rattle.laws_device.proofs.{Carrying.{StreamedOver, streams_call, streams_go}, Chains.Behind, Seats.{AgreesBy, Carried, LeftBy, seat}, Fits.{fewer, fits_after}}
use Rattle.laws_device.{proofs.{Keeping.{Keeps, asking, Lets, keeps_bind}, Steps.closing_keeps, Walk.Keeping.{keeps_if, keeps_some}}, specs.Carried.Streamed.{Ports, ports_of}}
use Rattle.laws_device.specs.{Carried.Streamed.{IsStreamed, count_in, gives, look}, Honest.{HoldsBytes, ends_of_state}}
use Rattle.vs_device_parts.specs.{Transmitting.{keeps_flow, dial_answered, heard, on_known, on_packet, on_unknown, refused, unknown_why}, Connections.keeping}
use Rattle.vs_device_parts.specs.{Connections.{after_leaving, stream_closed, with_connection, with_dialed, with_fault, with_reply}, Calls.{DeviceTree, Dial, HostMoves, Situation}}
use Rattle.vs_device_parts.specs.{State.{DeviceConnection, DeviceEntry, DeviceState}, Streams.{closing, leaving}}
use Rattle.std.proofs.Common.{◌≡◌, ℕ, ◌+◌, ◌≤◌, ◌==◌, ◌&&◌, Bool, true, false, cond, List, [], ◌∷◌, ◌++◌, length, take, drop, Contains, Option, Some, None, refl, sym, ap, subst}
use Rattle.std.proofs.{Common.{◌∙◌, arith, length-append, length-take, get_or, inl, inr}, lemmas.{Bool.Decides.nat_tests, Grind.common_steps, List.get_or_default}}
use Rattle.std.specs.List.{All}
use Rattle.vs_contents.specs.CallTree.{Done, bind}
use Rattle.vs_conn.specs.{End.{ConnectionEnd, after_op, end_after, is_reset, is_of, verdict_of}, declared.end.{Verdict.Verdict, Why.Why}}
use Rattle.vs_flow.{specs.{CleanPairs.kept_if, Table.{entry_of, has_place}, Flow.{is_assigned, same_flow}, declared.flow.Flow.Flow}, proofs.Entries.same_flow_true}
use Rattle.vs_header.specs.{declared.{Kind.{Kind, TheVariants.Stream}, Header.Header, TheConstants.HEADER_LEN}, Op.op_named}
use Rattle.laws_history.specs.{Packets.is_request, declared.packet.Packet.Packet}
use Rattle.vs_outside.specs.{declared.host_net.Dialed.Dialed, Host.{HostContents, IsDialed, after_dial, after_failed, after_close, called}}
use Rattle.vs_page.specs.{Fair.IsFairLog, Held.{FitsWire, IsWhole, packet_held}, Log.{Device, Log, flow_to_host, side_of}, Open.is_dropped}
use Rattle.vs_page.{specs.declared.log.LogEntry.TheVariants.GotPacket, proofs.Entries.{one_got as before_got}}
use Rattle.vs_replies.specs.Owed.{reply_to}
use Rattle.vs_ring_port.specs.{Chains.bytes_in, EndLog.EndLog, declared.device_ring.Chain.Chain}
use Rattle.laws_tables.{specs.{Drains.delivered, Ends.is_new, Steps.{is_overrun, HasEnd}, Heard.heard_of}, proofs.{Keeps.has_room, Slots.found_by, Fair.{got_goes_on, got_one}, OnFlow.follows_old}}
use Rattle.vs_wrap.specs.Wrap.{counted}
use Rattle.vs_proxy_parts.specs.State.{Handshake}
use Rattle.vs_uds.specs.OkLine.{ok_text}
use Rattle.laws_device.proofs.Carried.Changing.{lost_streams}
use Rattle.laws_device.proofs.Carried.Counted.{Lacks, full_lacks, lost_lacks, none_lacks, odd_lacks, own_lacks, unheard_lacks}
use Rattle.laws_device.specs.Carried.Streamed.{heard_at, is_heard}
use Rattle.laws_device.specs.Honest.{IsFitState}
use Rattle.vs_flow.specs.Flow.{host_asks}
use Rattle.vs_flow.specs.Table.{IsRising, IsTable, Table}
use Rattle.vs_outside.specs.Host.{dial_answer}
use Rattle.vs_conn.specs.declared.end.Verdict.TheVariants as verdict
use Rattle.vs_conn.specs.declared.end.Why.TheVariants as why
use Rattle.vs_outside.specs.declared.host_net.Dialed.TheVariants as dialed
use Rattle.vs_uds.specs.Path.{path_of}
use Rattle.laws_device.proofs.Carrying.{dropped_lost, faulted_lost, faulted_streams}
use Rattle.vs_limits.specs.declared.TheConstants.{DEVICE_CONNECTIONS}
use Rattle.std.proofs.Common.{nat_lt, suc, ◌<◌}

-- A fair log was fair before.
fair_before : (p : Packet) (log : Log) → IsFairLog Device (GotPacket p ∷ log) → IsFairLog Device log
fair_before p log fair = ((before_got Device log p).0 fair).0

pub reset_plain : (kind : Kind) (p : Packet) → (is_reset p.header && is_of kind p.header) ≡ true → is_request p ≡ false
reset_plain kind p is = grind (arith, nat_tests, common_steps, is)

-- A packet ends a connection where it is an RST of its type.
abbrev pub peer_resets : Verdict → Header → Bool
peer_resets verdict.Peer h = is_reset h
peer_resets _ h = false

pub rst_leaves : (e : ConnectionEnd) (h : Header) → peer_resets (verdict_of e h) h ≡ (is_reset h && is_of e.kind h)
rst_leaves e h = grind (arith, common_steps)

still_new : (e : ConnectionEnd) (h : Header) → is_new (end_after e h) ≡ true → is_new e ≡ true
still_new e h = grind (arith, common_steps)

pub accept_old : (e : ConnectionEnd) (h : Header) → verdict_of e h ≡ verdict.Accept → is_new (end_after e h) ≡ false
accept_old e h is = ap (λ (v : Verdict). is_new (after_op (op_named h.op) e h v)) is

pub deliver_old : (e : ConnectionEnd) (h : Header) → verdict_of e h ≡ verdict.Deliver → is_new (end_after e h) ≡ false
deliver_old e h is = grind (arith, common_steps, is)

-- A table gave as many slots as it has entries, or more.
given_from : (from : ℕ) (es : List DeviceEntry) (n : ℕ) → IsRising es → All (λ e. from ≤ e.slot) es → All (λ e. e.slot < n) es → from ≤ n → from + length es ≤ n
given_from from [] n rising least most less = omega (arith, less)
given_from from (e ∷ es) n rising least most less =
    let first = least 0 e (omega arith) in
    let last = most 0 e (omega arith) in
    let rest = given_from (e.slot + 1) es n (λ i j d before within. rising (suc i) (suc j) d (omega (arith, before)) (omega (arith, within)))
    (λ i d within. let up = rising 0 (suc i) d (omega arith) (omega (arith, within)) in omega (arith, up))
    (λ i d within. most (suc i) d (omega (arith, within))) (omega (arith, last)) in
    omega (arith, first, rest)

entries_given : (t : Table DeviceConnection) → IsTable t → length t.entries ≤ t.given
entries_given t sound =
    let least = given_from 0 t.entries t.given sound.rising (λ i d within. omega arith) sound.were_given (omega arith) in omega (arith, least)

module _ (carry : Carried) (lines : List Handshake) (first port : ℕ) (s : DeviceState) (chain : Chain) (h : Header) (wire : FitsWire h) where
  abbrev Streamed : DeviceState → Fact
  Streamed t = StreamedOver carry lines first port t

  -- The packet with this header came, and its payload is this.
  abbrev pub packet : List ℕ → Packet
  packet payload = record { header = h; payload = payload }

  -- The newest entry of the log is the packet, and the device agrees with the log before it.
  pub record IsCome (page : List ℕ) (host : Option HostContents) (l : EndLog) : Type 0 where
    pub payload : List ℕ
    pub log : Log
    pub entries_are : l.entries ≡ GotPacket (record { header = h; payload = payload }) ∷ log
    pub was : LeftBy carry first port s.cid s.overrun s.table s.replies s.clean log
    pub fair : Good carry.fairly (GotPacket (record { header = h; payload = payload }) ∷ log)
    pub streams : Streamed s host log
    pub whole : IsWhole (packet payload)
    pub held : packet_held page ≡ Some (packet payload)

  abbrev pub Came : Telling
  Came honest host l =
      (page : List ℕ) × Behind carry.others chain page s.chain l.held × (Guard carry.fairly honest s.failed l.entries → IsCome page host l)

  -- The device t took the packet.
  abbrev pub After : DeviceState → Telling
  After t honest host l =
      (page : List ℕ) × Behind carry.others chain page t.chain l.held
      × (Guard carry.fairly honest t.failed l.entries → AgreesBy carry first port t l × Streamed t host l.entries)

  abbrev pub Heard : DeviceState × Verdict → Situation → Type 0
  Heard x c = (x.0.failed ≡ s.failed) × (x.0.chain ≡ s.chain) × Tells carry.fairly (After x.0) c

  abbrev Hears : DeviceState → Type 0
  Hears t = (payload : List ℕ) (log : Log) → LeftBy carry first port s.cid s.overrun s.table s.replies s.clean log
      → Good carry.fairly (GotPacket (packet payload) ∷ log) → IsWhole (packet payload)
      → LeftBy carry first port t.cid t.overrun t.table t.replies t.clean (GotPacket (packet payload) ∷ log)

  -- What comes to the streams, of which one may be made or closed.
  abbrev Streams : (HostContents → HostContents) → DeviceState → Type 0
  Streams f t = (payload : List ℕ) (log : Log) → LeftBy carry first port s.cid s.overrun s.table s.replies s.clean log → IsFairLog Device (GotPacket (packet payload) ∷ log)
      → IsWhole (packet payload) → carry.plain first (GotPacket (packet payload) ∷ log) → (c : HostContents) → IsStreamed c log (ports_of carry.since port s) s.table lines
      → IsStreamed (f c) (GotPacket (packet payload) ∷ log) (ports_of carry.since port t) t.table lines

  -- Where the log is plain, it is fair.
  fair_come : (page : List ℕ) (o : Option HostContents) (l : EndLog) (come : IsCome page o l)
      → carry.plain first (GotPacket (packet come.payload) ∷ come.log) → IsFairLog Device (GotPacket (packet come.payload) ∷ come.log)
  fair_come page o l come few = good_fair carry.fairly _ (carry.sure first _ few) come.fair

  agrees_by : (t : DeviceState) (page : List ℕ) (o n : Option HostContents) (l : EndLog) → Hears t → (come : IsCome page o l)
      → (Streamed s o come.log → Streamed t n (GotPacket (packet come.payload) ∷ come.log)) → AgreesBy carry first port t l × Streamed t n l.entries
  agrees_by t page o n l step come streams = (
    subst (λ (log : Log). LeftBy carry first port t.cid t.overrun t.table t.replies t.clean log) (sym come.entries_are)
        (step come.payload come.log come.was come.fair come.whole),
    subst (λ (log : Log). Streamed t n log) (sym come.entries_are) (streams come.streams),
  )

  stays_so : (t : DeviceState) (page : List ℕ) (o : Option HostContents) (l : EndLog) → Streams (λ c. c) t → (come : IsCome page o l)
      → Streamed s o come.log → Streamed t o (GotPacket (packet come.payload) ∷ come.log)
  stays_so t page o l streams come = streams_go carry first lines lines port port s t come.log (GotPacket (packet come.payload) ∷ come.log)
      (carry.before first (GotPacket (packet come.payload)) come.log) (λ c few x.
      streams come.payload come.log come.was (fair_come page o l come few) come.whole few c x) o

  behind : (t : DeviceState) (page : List ℕ) (l : EndLog) → t.chain ≡ s.chain → Behind carry.others chain page s.chain l.held
      → Behind carry.others chain page t.chain l.held
  behind t page l chain_is held = subst (λ (o : Option Chain). Behind carry.others chain page o l.held) (sym chain_is) held

  quiet : (t : DeviceState) (v : Verdict) (c : Situation) → t.failed ≡ s.failed → t.chain ≡ s.chain → Hears t → Streams (λ c. c) t → Tells carry.fairly Came c
      → Heard (t, v) c
  quiet t v c failed chain_is step streams tells = (
    failed,
    chain_is,
    tells_weaker carry.fairly Came (After t) (λ hon o l came. (
      came.0,
      behind t came.0 l chain_is came.1,
      λ honest. let come = came.2 (guard_same carry.fairly hon t.failed s.failed l.entries failed honest) in
          agrees_by t came.0 o o l step come (stays_so t came.0 o l streams come),
    )) c tells,
  )

  -- With a call on the host.
  calls : (t : DeviceState) (v : Verdict) (c d : Situation) (faults : Bool) (A : HostContents → Type 0) (f : HostContents → HostContents)
      → t.failed ≡ s.failed → t.chain ≡ s.chain → Hears t
      → ((payload : List ℕ) (log : Log) → LeftBy carry first port s.cid s.overrun s.table s.replies s.clean log → IsFairLog Device (GotPacket (packet payload) ∷ log)
      → IsWhole (packet payload) → carry.plain first (GotPacket (packet payload) ∷ log) → (h : HostContents) → A h → IsStreamed h log (ports_of carry.since port s) s.table lines
      → IsStreamed (f h) (GotPacket (packet payload) ∷ log) (ports_of carry.since port t) t.table lines)
      → HostMoves faults A f c d → Tells carry.fairly Came c → Heard (t, v) d
  calls t v c d faults A f failed chain_is step streams made tells = (
    failed,
    chain_is,
    host_moves carry.fairly faults A f c d made Came (After t) (λ hon o n l exposes came. (
      came.0,
      behind t came.0 l chain_is came.1,
      λ honest. let come = came.2 (guard_same carry.fairly hon t.failed s.failed l.entries failed honest) in agrees_by t came.0 o n l step come
          (streams_call carry first lines lines port port s t come.log (GotPacket (packet come.payload) ∷ come.log)
          (carry.before first (GotPacket (packet come.payload)) come.log) A f
          (λ h answers few x. streams come.payload come.log come.was (fair_come came.0 o l come few) come.whole few h answers x) o n exposes),
    )) tells,
  )

  -- No connection that gives its stream payload misses some of a packet that is dropped.
  idle : (payload : List ℕ) (log : Log) → LeftBy carry first port s.cid s.overrun s.table s.replies s.clean log → IsFairLog Device (GotPacket (packet payload) ∷ log)
      → carry.plain first (GotPacket (packet payload) ∷ log) → is_dropped Device s.cid h ≡ true
      → All (λ e. e.flow ≡ flow_to_host h → gives e.value.end ≡ true → payload ≡ []) s.table.entries
  idle payload log was fair plain dropped i d within flow given =
      let e : DeviceEntry = get_or s.table.entries i d in
      let there : Contains s.table.entries e = (i, within, sym (get_or_default s.table.entries i d e within)) in
      let has : HasEnd (flow_to_host h) e.value.end (ends_of_state port s) =
      subst (λ (f : Flow). HasEnd f e.value.end (ends_of_state port s)) flow (has_end s was.fits e there port) in
      carry.idle first (packet payload) (seat port s log) was.seated was.matches fair plain dropped e.value.end has given

  -- A REQUEST comes on no flow that has a connection.
  no_asking : (payload : List ℕ) (log : Log) → LeftBy carry first port s.cid s.overrun s.table s.replies s.clean log → IsFairLog Device (GotPacket (packet payload) ∷ log)
      → All (λ e. e.flow ≡ flow_to_host h → is_request (packet payload) ≡ false) s.table.entries
  no_asking payload log was fair i d within flow =
      let e : DeviceEntry = get_or s.table.entries i d in
      let there : Contains s.table.entries e = (i, within, sym (get_or_default s.table.entries i d e within)) in
      got_goes_on Device first (packet payload) e.value.end (ends_of_state port s) log was.matches.flows
      (subst (λ (f : Flow). HasEnd f e.value.end (ends_of_state port s)) flow (has_end s was.fits e there port)) (fair (flow_to_host h))

  module _ (kept : is_dropped Device s.cid h ≡ false) where
    -- A packet of a connection of the table.
    module _ (e : DeviceEntry) (there : Contains s.table.entries e) (flow : flow_to_host h ≡ e.flow) where
      goes_on : (v : Verdict) → verdict_of e.value.end h ≡ v → peer_resets v h ≡ false → (is_reset h && is_of e.value.end.kind h) ≡ false
      goes_on v is other = sym (rst_leaves e.value.end h) ∙ ap (λ (w : Verdict). peer_resets w h) is ∙ other

      module _ (payload : List ℕ) (log : Log) (was : LeftBy carry first port s.cid s.overrun s.table s.replies s.clean log)
          (fair : Good carry.fairly (GotPacket (packet payload) ∷ log)) (whole : IsWhole (packet payload)) where
        after : (v : Verdict) → verdict_of e.value.end h ≡ v
            → HoldsBytes (end_after e.value.end h).credit (length e.value.pending + delivered v h.len)
        after v is = subst (λ (w : Verdict). HoldsBytes (end_after e.value.end h).credit (length e.value.pending + delivered w h.len)) is
            (fits_after e.value.end h (length e.value.pending) (entry_fits s was.fits e there).bytes)

        none_new : HoldsBytes (end_after e.value.end h).credit (length e.value.pending)
        none_new = fewer _ _ _ (after (verdict_of e.value.end h) refl) (omega arith)

        heard_fits : IsFitConnection (heard h e.value)
        heard_fits = grind (arith, common_steps, none_new, still_new)

        hears : (v : Verdict) → verdict_of e.value.end h ≡ v → peer_resets v h ≡ false
            → LeftBy carry first port s.cid s.overrun (with_connection e.slot (heard h e.value) s).table s.replies s.clean
            (GotPacket (packet payload) ∷ log)
        hears v is other = stays_with carry first port s (packet payload) log was fair wire whole kept e there flow (heard h e.value) refl heard_fits
            (goes_on v is other)

        accepts : (line : List ℕ) → verdict_of e.value.end h ≡ verdict.Accept
            → LeftBy carry first port s.cid s.overrun (with_connection e.slot (record (heard h e.value) { ok_line = line }) s).table s.replies s.clean
            (GotPacket (packet payload) ∷ log)
        accepts line is =
            let c : DeviceConnection = record (heard h e.value) { ok_line = line } in
            stays_with carry first port s (packet payload) log was fair wire whole kept e there flow c refl
            (begun_fits c none_new (accept_old e.value.end h is)) (goes_on verdict.Accept is refl)

        delivers : (bytes : List ℕ) → length bytes ≤ h.len → verdict_of e.value.end h ≡ verdict.Deliver
            → LeftBy carry first port s.cid s.overrun (with_connection e.slot
            (record (heard h e.value) { pending = e.value.pending ++ bytes }) s).table s.replies s.clean (GotPacket (packet payload) ∷ log)
        delivers bytes short is =
            let c : DeviceConnection = record (heard h e.value) { pending = e.value.pending ++ bytes } in
            stays_with carry first port s (packet payload) log was fair wire whole kept e there flow c refl
            (begun_fits c (fewer _ _ _ (after verdict.Deliver is) (omega (arith, short, length-append e.value.pending bytes)))
            (deliver_old e.value.end h is))
            (goes_on verdict.Deliver is refl)

        leaves : verdict_of e.value.end h ≡ verdict.Peer → is_reset h ≡ true
            → LeftBy carry first port s.cid s.overrun (after_leaving e.slot
            (with_connection e.slot (stream_closed (heard h e.value)) s)).table s.replies (kept_if (keeps_flow h e) e.flow s.clean)
            (GotPacket (packet payload) ∷ log)
        leaves is reset = leaves_with carry first port s (packet payload) log was fair wire whole kept e there flow (stream_closed (heard h e.value))
            (sym (rst_leaves e.value.end h) ∙ ap (λ (w : Verdict). peer_resets w h) is ∙ reset)

      -- Of a fair log no packet holds more than there is room for.
      overruns : (payload : List ℕ) (log : Log) → LeftBy carry first port s.cid s.overrun s.table s.replies s.clean log → IsFairLog Device (GotPacket (packet payload) ∷ log)
          → (w : Why) → verdict_of e.value.end h ≡ verdict.Rst w → is_overrun (verdict.Rst w) ≡ true → ⊥
      overruns payload log was fair w is over =
          let room = has_room Device first (packet payload) e.value.end (ends_of_state port s) log was.matches
          (subst (λ (f : Flow). HasEnd f e.value.end (ends_of_state port s)) (sym flow) (has_end s was.fits e there port)) fair in
          let no : true ≡ false = sym over ∙ sym (ap is_overrun is) ∙ room in
          cc

      -- It is no REQUEST, and the connection's was put or got.
      known : (payload : List ℕ) (log : Log) → LeftBy carry first port s.cid s.overrun s.table s.replies s.clean log → IsFairLog Device (GotPacket (packet payload) ∷ log)
          → (is_request (packet payload) ≡ false) × (is_new e.value.end ≡ false)
      known payload log was fair =
          let has : HasEnd (flow_to_host h) e.value.end (ends_of_state port s) =
          subst (λ (f : Flow). HasEnd f e.value.end (ends_of_state port s)) (sym flow) (has_end s was.fits e there port) in (
            got_goes_on Device first (packet payload) e.value.end (ends_of_state port s) log was.matches.flows has (fair (flow_to_host h)),
            follows_old (side_of Device (flow_to_host h)) (heard_of Device first (flow_to_host h) log) e.value.end
                (got_one Device first (packet payload) e.value.end (ends_of_state port s) log was.matches.flows has (fair (flow_to_host h))).follows,
          )

      abbrev with_verdict : Verdict → DeviceTree DeviceState → DeviceTree (DeviceState × Verdict)
      with_verdict v tree = bind tree (λ t. Done (t, v))

      heard_on : (v : Verdict) → verdict_of e.value.end h ≡ v → (v ≡ verdict.Accept → ⊥) → (v ≡ verdict.Deliver → ⊥)
          → Streams (λ c. c) (with_connection e.slot (heard h e.value) s)
      heard_on v is other undelivered payload log was fair whole few c x =
          let o = known payload log was fair in
          hears_streams c log (ports_of carry.since port s) s.table lines x was.fits.sound (packet payload) whole (fair_before (packet payload) log fair) fair e there flow o.0 o.1 v is other undelivered

      module _ (c : Situation) (tells : Tells carry.fairly Came c) where
        peers : (b : Bool) → is_reset h ≡ b → verdict_of e.value.end h ≡ verdict.Peer
            → Keeps Heard (with_verdict verdict.Peer (cond b (leaving (keeps_flow h e) (record e { value = heard h e.value }) s)
            (Done (with_connection e.slot (heard h e.value) s)))) c
        peers false reset is = quiet (with_connection e.slot (heard h e.value) s) verdict.Peer c refl refl
            (λ payload log was fair whole. hears payload log was fair whole verdict.Peer is reset) (heard_on verdict.Peer is
            (λ (q : verdict.Peer ≡ verdict.Accept). cc) (λ (q : verdict.Peer ≡ verdict.Deliver). cc)) tells
        peers true reset is =
            let x : DeviceEntry = record e { value = heard h e.value } in
            let keep : Bool = keeps_flow h e in
            let gone : DeviceState = keeping keep e.flow (after_leaving e.slot (with_connection e.slot (stream_closed (heard h e.value)) s)) in
            let next : DeviceState → DeviceTree DeviceState = λ t. Done (keeping keep e.flow (after_leaving e.slot t)) in
            let kept_ports : Ports = record (ports_of carry.since port s) { clean = kept_if keep e.flow s.clean } in
            let empty = reset_empty e.value.end.kind in
            let leaving_now = λ (payload : List ℕ) (log : Log) (was : LeftBy carry first port s.cid s.overrun s.table s.replies s.clean log)
            (fair : Good carry.fairly (GotPacket (packet payload) ∷ log)) (whole : IsWhole (packet payload)). leaves payload log was fair whole is reset in
            let ends = sym (rst_leaves e.value.end h) ∙ ap (λ (w : Verdict). peer_resets w h) is ∙ reset in
            let heard_streams = λ (payload : List ℕ) (log : Log) (was : LeftBy carry first port s.cid s.overrun s.table s.replies s.clean log)
            (fair : IsFairLog Device (GotPacket (packet payload) ∷ log)) (whole : IsWhole (packet payload)) (g : HostContents)
            (y : IsStreamed g log (ports_of carry.since port s) s.table lines).
            keeps_streams g (GotPacket (packet payload) ∷ log) (ports_of carry.since port s) s.table lines
            (empty_streams g log (ports_of carry.since port s) s.table lines y was.fits.sound (packet payload) whole (fair_before (packet payload) log fair) fair (empty (packet payload) ends)
            (reset_plain e.value.end.kind (packet payload) ends)) was.fits.sound e there (known payload log was fair).1 keep in
            let by : (d : Situation) → Closes x.value c d → Heard (gone, verdict.Peer) d = λ d closes. elim closes as
            (λ z. Heard (gone, verdict.Peer) d) [
              | inl shut ↦
                  subst (λ (z : Situation). Heard (gone, verdict.Peer) z) (sym shut.1) (quiet gone verdict.Peer c refl refl leaving_now
                  (λ payload log was fair whole few g y. leaves_streams g (GotPacket (packet payload) ∷ log) kept_ports s.table lines
                  (heard_streams payload log was fair whole g y) was.fits.sound e there shut.0 (stream_closed (heard h e.value))) tells)
              | inr made ↦
                  calls gone verdict.Peer c d false (λ g. Unit {0}) (after_close e.value.stream) refl refl leaving_now
                  (λ payload log was fair whole few g any y. closes_streams g (GotPacket (packet payload) ∷ log) kept_ports s.table lines
                  (heard_streams payload log was fair whole g y) was.fits.sound e there (stream_closed (heard h e.value))) made.1 tells
            ] in
            keeps_bind Heard (leaving keep x s) (λ t. Done (t, verdict.Peer)) c (keeps_bind (λ t d. Heard (t, verdict.Peer) d)
            (closing x stream_closed s) next c (closing_keeps (λ t. Heard (keeping keep e.flow (after_leaving e.slot t), verdict.Peer)) x stream_closed s c by))

        refuses : (w : Why) → verdict_of e.value.end h ≡ verdict.Rst w → Keeps Heard
            (with_verdict (verdict.Rst w) (on_known (verdict.Rst w) chain h e s)) c
        refuses (why.Overrun o) is = quiet (with_connection e.slot (heard h e.value) (record s { overrun = counted s.overrun }))
            (verdict.Rst (why.Overrun o)) c refl refl
            (λ payload log was fair whole. let k = hears payload log was fair whole _ is refl in record {
              fits = k.fits;
              none_overrun = given_so carry.fairly (counted s.overrun ≡ 0)
                  (λ sure. absurd (overruns payload log was (good_fair carry.fairly _ sure fair) (why.Overrun o) is refl));
              matches = k.matches;
              fair = k.fair;
              seated = k.seated;
            })
            (λ payload log was fair whole few c y. absurd (overruns payload log was fair (why.Overrun o) is refl)) tells
        refuses w is = quiet (with_connection e.slot (heard h e.value) s) (verdict.Rst w) c refl refl
            (λ payload log was fair whole. hears payload log was fair whole _ is refl)
            (heard_on (verdict.Rst w) is (λ (q : verdict.Rst w ≡ verdict.Accept). cc) (λ (q : verdict.Rst w ≡ verdict.Deliver). cc)) tells

        accepted : (line : List ℕ) → line ≡ cond e.value.by_client (ok_text e.flow.host) [] → verdict_of e.value.end h ≡ verdict.Accept
            → Heard (with_connection e.slot (record (heard h e.value) { ok_line = line }) s, verdict.Accept) c
        accepted line written is = quiet (with_connection e.slot (record (heard h e.value) { ok_line = line }) s) verdict.Accept c refl refl
            (λ payload log was fair whole. accepts payload log was fair whole line is) (λ payload log was fair whole few c y.
            let o = known payload log was fair in
            accepts_streams c log (ports_of carry.since port s) s.table lines y was.fits.sound (packet payload) whole (fair_before (packet payload) log fair) fair e there flow o.0 o.1
            (join_of (look c) c.labelled (count_in c) log (heard_at c (ports_of carry.since port s)) s.table lines y e there).client line written is) tells

        by_verdict : (v : Verdict) → verdict_of e.value.end h ≡ v → Keeps Heard (with_verdict v (on_known v chain h e s)) c
        by_verdict verdict.Accept is = accepted _ refl is
        by_verdict verdict.Deliver is = (
          λ (front : HEADER_LEN ≡ 0). cc,
          λ bytes d made. (
            refl,
            refl,
            moves carry.fairly _ _ _ _ _ (λ l. l) c d made.0 made.1 Came (After (with_connection e.slot
                (record (heard h e.value) { pending = e.value.pending ++ bytes }) s))
                (λ hon o l asked came stays. (
                  came.0,
                  came.1,
                  λ honest.
                      let come = came.2 honest in
                      let read : bytes ≡ take h.len (drop HEADER_LEN came.0) =
                      asked ∙ ap (λ (page : List ℕ). take h.len (drop HEADER_LEN page)) (bytes_held chain came.0 came.1.0 l came.1.1) in
                      let few = length-take h.len (drop HEADER_LEN (bytes_in chain l.held)) in
                      let same : length bytes ≡ length (take h.len (drop HEADER_LEN (bytes_in chain l.held))) = ap length asked in
                      agrees_by (with_connection e.slot (record (heard h e.value) { pending = e.value.pending ++ bytes }) s) came.0 o o l
                      (λ payload log was fair whole. delivers payload log was fair whole bytes (omega (arith, few, same)) is) come
                      (streams_go carry first lines lines port port s (with_connection e.slot (record (heard h e.value) { pending = e.value.pending ++ bytes }) s)
                      come.log (GotPacket (packet come.payload) ∷ come.log) (carry.before first (GotPacket (packet come.payload)) come.log) (λ c some x.
                      let fair_now = fair_come came.0 o l come some in
                      let known_now = known come.payload come.log come.was fair_now in
                      delivers_streams c come.log (ports_of carry.since port s) s.table lines x come.was.fits.sound (packet come.payload) come.whole (fair_before (packet come.payload) come.log fair_now) fair_now e there flow
                      known_now.0 known_now.1 bytes
                      (read ∙ payload_in came.0 (packet come.payload) come.held (delivered_rw e.value.end (packet come.payload) is)) is) o),
                )) tells,
          ),
        )
        by_verdict verdict.Discard is = quiet (with_connection e.slot (heard h e.value) s) verdict.Discard c refl refl
            (λ payload log was fair whole. hears payload log was fair whole _ is refl)
            (heard_on verdict.Discard is (λ (q : verdict.Discard ≡ verdict.Accept). cc) (λ (q : verdict.Discard ≡ verdict.Deliver). cc)) tells
        by_verdict verdict.Ignore is = quiet (with_connection e.slot (heard h e.value) s) verdict.Ignore c refl refl
            (λ payload log was fair whole. hears payload log was fair whole _ is refl)
            (heard_on verdict.Ignore is (λ (q : verdict.Ignore ≡ verdict.Accept). cc) (λ (q : verdict.Ignore ≡ verdict.Deliver). cc)) tells
        by_verdict verdict.Peer is = peers (is_reset h) refl is
        by_verdict (verdict.Rst w) is = refuses w is

    -- A packet of another flow.
    module _ (none : entry_of s.table (flow_to_host h) ≡ None) (c : Situation) (tells : Tells carry.fairly Came c) where
      -- A REQUEST that isn't served.
      abbrev Unserved : DeviceState → (HostContents → Type 0) → Type 0
      Unserved t A = (payload : List ℕ) (log : Log) (c : HostContents) → IsFitState s → A c → IsStreamed c log (ports_of carry.since port s) s.table lines
          → IsStreamed c log (ports_of carry.since port t) s.table lines × Lacks (heard_at c (ports_of carry.since port t)).serving (packet payload) log

      passes : (t : DeviceState) (A : HostContents → Type 0) → Unserved t A → (payload : List ℕ) (log : Log)
          → LeftBy carry first port s.cid s.overrun s.table s.replies s.clean log → IsFairLog Device (GotPacket (packet payload) ∷ log) → IsWhole (packet payload)
          → (c : HostContents) → A c → IsStreamed c log (ports_of carry.since port s) s.table lines
          → IsStreamed c (GotPacket (packet payload) ∷ log) (ports_of carry.since port t) s.table lines
      passes t A unserved payload log was fair whole c is x =
          let y = unserved payload log c was.fits is x in
          unknown_streams c log (ports_of carry.since port t) s.table lines y.0 was.fits.sound (packet payload) whole (fair_before (packet payload) log fair) fair none y.1

      replied : (t : DeviceState) (v : Verdict) → (t.failed ≡ s.failed) × (t.chain ≡ s.chain) × (t.cid ≡ s.cid) × (t.overrun ≡ s.overrun)
          × (t.table ≡ s.table) × (t.clean ≡ s.clean)
          × (t.replies ≡ s.replies ++ reply_to (flow_to_host h) h ∷ []) → is_reset h ≡ false → Unserved t (λ c. Unit {0}) → Heard (t, v) c
      replied t v (failed, chain_is, cid, overrun, table, clean, replies) plain unserved = quiet t v c failed chain_is (λ payload log was fair whole.
          rw (cid, overrun, table, clean, replies) (replies_to carry first port s (packet payload) log was fair wire whole kept none plain))
          (λ payload log was fair whole few c x. subst (λ (u : Table DeviceConnection). IsStreamed c (GotPacket (packet payload) ∷ log) (ports_of carry.since port t) u lines)
          (sym table) (passes t (λ c. Unit {0}) unserved payload log was fair whole c tt x)) tells

      -- The REQUEST is the first packet of its flow.
      dials : (path : List ℕ) (a : Dialed) (d : Situation) (f : HostContents → HostContents) (t : DeviceState) (faults : Bool) → (t.failed ≡ s.failed) × (t.chain ≡ s.chain)
          × (t.cid ≡ s.cid) × (t.overrun ≡ s.overrun) × (t.table ≡ s.table) × (t.clean ≡ s.clean) × (t.replies ≡ s.replies ++ reply_to (flow_to_host h) h ∷ []) → is_reset h ≡ false
          → HostMoves faults (IsDialed path a) f c d
          → Unserved t (IsDialed path a)
          → ((g : HostContents) (log : Log) → IsStreamed g log (ports_of carry.since port t) s.table lines → IsStreamed (f g) log (ports_of carry.since port t) s.table lines) → Heard (t, verdict.Rst why.NotLive) d
      dials path a d f t faults (failed, chain_is, cid, overrun, table, clean, replies) plain made unserved carries =
          calls t (verdict.Rst why.NotLive) c d faults (IsDialed path a) f failed chain_is (λ payload log was fair whole.
          rw (cid, overrun, table, clean, replies) (replies_to carry first port s (packet payload) log was fair wire whole kept none plain))
          (λ payload log was fair whole few g is x. subst (λ (u : Table DeviceConnection). IsStreamed (f g) (GotPacket (packet payload) ∷ log) (ports_of carry.since port t) u lines)
          (sym table) (carries g (GotPacket (packet payload) ∷ log) (passes t (IsDialed path a) unserved payload log was fair whole g is x))) made tells

      -- No listener is at the path.
      unheard : (g : HostContents) → dialed.Refused ≡ dial_answer (path_of s.base h.dst_port) g → is_heard (heard_at g (ports_of carry.since port s)).serving (flow_to_host h) ≡ false
      unheard g is = grind (arith, common_steps)

      abbrev path : List ℕ
      path = path_of s.base h.dst_port

      dial_by : (a : Dialed) (d : Situation) → Lets (Dial path (flow_to_host h)) a c d → is_assigned h.dst_port ≡ false → is_reset h ≡ false
          → is_request (packet []) ≡ true → h.kind ≡ 1 → has_place s.table ≡ true → Heard (dial_answered h a s) d
      dial_by (dialed.Stream stream) d made outside plain request kind place =
          calls (with_dialed (flow_to_host h) h stream s) verdict.Accept c d false (IsDialed path (dialed.Stream stream))
          (after_dial (flow_to_host h) (dialed.Stream stream)) refl refl
          (λ payload log was fair whole. opens carry first port s (packet payload) log was fair wire whole kept none stream request kind place)
          (λ payload log was fair whole few g is x.
          subst (λ (n : ℕ). IsStreamed (after_dial (flow_to_host h) (dialed.Stream n) g) (GotPacket (packet payload) ∷ log)
          (ports_of carry.since port (with_dialed (flow_to_host h) h n s)) (with_dialed (flow_to_host h) h n s).table lines) (sym (dialed_id path stream g (sym is)))
          (dial_host g log (ports_of carry.since port s) s.table lines x was.fits.sound (packet payload) fair request (whole.none (request_empty (packet payload) request)) none h))
          made tells
      dial_by dialed.Refused d made outside plain request kind place = dials path dialed.Refused d called (with_reply (reply_to (flow_to_host h) h) s) false
          (refl, refl, refl, refl, refl, refl, refl) plain made (λ payload log g fits is x. (x, unheard_lacks (heard_at g (ports_of carry.since port s)).serving (packet payload) log (unheard g is)))
          (λ g log x. called_host g log (ports_of carry.since port s) s.table lines x)
      dial_by dialed.Failed d made outside plain request kind place = dials path dialed.Failed d after_failed (with_reply (reply_to (flow_to_host h) h) (with_fault s)) true
          (refl, refl, refl, refl, refl, refl, refl) plain made (λ payload log g fits is x. (
            faulted_streams carry.since port s g log lines fits x,
            lost_lacks (heard_at g (ports_of carry.since port (with_fault s))).serving (packet payload) log (faulted_lost carry.since.stays s),
          )) (λ g log x. failed_host g log (ports_of carry.since port (with_fault s)) s.table lines x)

      -- The table has no place: it gave as many slots as it has room, or all of them.
      no_slot : IsFitState s → s.table.room ≡ DEVICE_CONNECTIONS → has_place s.table ≡ false → nat_lt s.table.given s.table.room ≡ false
      no_slot fits room full = let most = entries_given s.table fits.sound in grind (arith, nat_tests, common_steps, full, room, most)

      refused_keeps : is_reset h ≡ false → Unserved s (λ c. Unit {0}) → Heard (refused h s) c
      refused_keeps plain unserved =
          replied (with_reply (reply_to (flow_to_host h) h) s) (verdict.Rst why.NotLive) (refl, refl, refl, refl, refl, refl, refl) plain unserved

      asked_by : (is_of Stream h && (h.op == 1)) ≡ true → is_request (packet []) ≡ true
      asked_by is = grind (arith, nat_tests, common_steps, is)

      reset_asks : is_reset h ≡ true → is_request (packet []) ≡ false
      reset_asks is = grind (arith, nat_tests, common_steps, is)

      of_stream : (is_of Stream h && (h.op == 1)) ≡ true → h.kind ≡ 1
      of_stream is = grind (arith, nat_tests, common_steps, is)

      own_flow : is_assigned h.dst_port ≡ true → host_asks (flow_to_host h) ≡ true
      own_flow mine = grind (arith, nat_tests, common_steps, kept, mine)

      unknown : Keeps Heard (on_unknown h s) c
      unknown =
          keeps_if asking Heard (is_reset h) _ _ c (λ is. quiet s verdict.Ignore c refl refl (λ payload log was fair whole. ignores_it carry first port s
          (packet payload) log was fair wire whole kept none is) (λ payload log was fair whole few c x. passes s (λ c. Unit {0}) (λ payload log c fits one x.
          (x, none_lacks (heard_at c (ports_of carry.since port s)).serving (packet payload) log (reset_asks is))) payload log was fair whole c tt x) tells) (λ plain.
          keeps_if asking Heard (is_of Stream h && (h.op == 1)) _ _ c (λ asks.
          keeps_if asking Heard (is_assigned h.dst_port) _ _ c (λ mine. refused_keeps plain (λ payload log c fits one x.
          (x, own_lacks (heard_at c (ports_of carry.since port s)).serving (packet payload) log (own_flow mine)))) (λ outside.
          keeps_if asking Heard (has_place s.table) _ _ c
          (λ place. (tt, λ a d made. dial_by a d made outside plain (asked_by asks) (of_stream asks) place)) (λ full. refused_keeps plain (λ payload log c fits one x.
          (x, full_lacks (heard_at c (ports_of carry.since port s)).serving (packet payload) log (no_slot fits x.streams.slots.0 full))))))
          (λ other. replied (with_reply (reply_to (flow_to_host h) h) s) (verdict.Rst (unknown_why h)) (refl, refl, refl, refl, refl, refl, refl) plain (λ payload log c fits one x.
          (x, odd_lacks (heard_at c (ports_of carry.since port s)).serving (packet payload) log other))))

  pub packet_keeps : (c : Situation) → Tells carry.fairly Came c → Keeps Heard (on_packet chain h s) c
  packet_keeps c tells =
      keeps_if asking Heard (is_dropped Device s.cid h) _ _ c (λ is. quiet (record s { dropped = counted s.dropped }) verdict.Ignore c refl refl
      (λ payload log was fair whole. drops_it carry first port s (packet payload) log was fair wire whole is) (λ payload log was fair whole few g x.
      let t : DeviceState = record s { dropped = counted s.dropped } in
      passes_streams g log (ports_of carry.since port t) s.table lines
      (lost_streams g log (ports_of carry.since port s) s.table lines x was.fits.sound (ports_of carry.since port t) refl refl refl refl refl (dropped_lost carry.since.stays s))
      was.fits.sound (packet payload) whole (fair_before (packet payload) log fair) fair (idle payload log was fair few is) (no_asking payload log was fair)
      (lost_lacks (heard_at g (ports_of carry.since port t)).serving (packet payload) log (dropped_lost carry.since.stays s))) tells) (λ kept.
      keeps_some asking Heard (entry_of s.table (flow_to_host h)) (on_unknown h s)
      (λ e. bind (on_known (verdict_of e.value.end h) chain h e s) (λ t. Done (t, verdict_of e.value.end h))) c
      (λ none. unknown kept none c tells) (λ e is.
      let found = found_by (λ (x : DeviceEntry). same_flow (flow_to_host h) x.flow) s.table.entries e is in
      by_verdict kept e found.0 (same_flow_true (flow_to_host h) e.flow found.1) c tells (verdict_of e.value.end h) refl))

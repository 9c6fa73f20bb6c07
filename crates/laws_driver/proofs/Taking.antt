-- A packet that is got: the driver's connections are those that the log with it leaves, and a fair one is never refused.
use Rattle.std.proofs.Common.{◌≡◌, ℕ, ◌<◌, ◌≤◌, ◌&&◌, Bool, true, false, cond, List, [], ◌∷◌, ◌++◌, Option, Some, None, refl, sym, ap, subst, ◌∙◌, arith, rules}
use Rattle.std.proofs.lemmas.{Bool.{Decides.nat_tests, and_parts, eqb-true}, Grind.common_steps, List.Elements.All-push}
use Rattle.vs_conn.{specs.{End.{ConnectionEnd, answering, end_after, is_of, is_refused, is_reset, verdict_of}, declared.end.Verdict.Verdict, Shut.is_both}, proofs.Frames.got_kind}
use Rattle.vs_conn.specs.Follows.{IsTaken}
use Rattle.vs_header.specs.declared.{Header.Header, Kind.{Kind, TheVariants.Stream}}
use Rattle.laws_history.specs.{Packets.{is_rst, is_clean_rst}, declared.packet.Packet.Packet}
use Rattle.vs_limits.specs.declared.TheConstants.{BUF_ALLOC, HOST_CID, LAST_ID, DRIVER_CONNECTIONS}
use Rattle.vs_flow.{proofs.{Entries.host_asks_to, Tables.IsAccepted}, specs.{Flow.{host_asks, is_assigned, same_flow}, Table.entry_of, declared.flow.Flow.Flow}}
use Rattle.vs_page.specs.{Fair.IsFairLog, Held.IsWhole, Log.{Driver, Log, flow_got, flow_to_guest, side_of, side_by}, Open.{is_dropped, asks_for}}
use Rattle.vs_page.{specs.declared.log.LogEntry.TheVariants.GotPacket, proofs.Flows.same_is}
use Rattle.vs_wrap.specs.Wrap.{counted}
use Rattle.vs_replies.specs.{Owed.reply_to, declared.Reply.Reply}
use Rattle.laws_tables.specs.{Ends.{Ends, FlowEnd, answer_kind, ends_of}, Steps.{HasEnd, HasNone, accepted, is_kept, is_message, left, taken, with_clean, with_end}}
use Rattle.laws_tables.{specs.{Both.{after_taking, answered, after_packet as after_packet_on}, Heard.{IsInOrder, heard_of}, Matches.Matches}, proofs.Keeps.{accepts, drops}}
use Rattle.laws_tables.proofs.{Keeps.{ignores, refuses, takes}, Fair.{got_not_refused, heard_all}, Slots.{added_slot, found_by, no_entry}}
use Rattle.vs_driver_parts.specs.{Receiving.{after_packet, after_verdict, is_request, may_open, on_heard, on_known, on_packet, on_unknown, with_reply}, Playing.FitsPorts}
use Rattle.vs_driver_parts.specs.State.{DriverConnection, DriverEntry, DriverState, slots_held}
use Rattle.vs_driver_parts.specs.Connections.{after_leaving, waits_no_more, with_connection, with_request, keeping}
use Rattle.vs_driver_parts.proofs.{Ids.found_under, Packets.{packet_known, packet_unknown}, Clean.{clean_entry, none_assigned}}
use Rattle.laws_driver.{specs.Honest.{IsFitFlow, IsFitReply, IsFitState, end_in, ends_of_state}, proofs.Tabling.{Stands, connection_ends, connection_fits, entry_fits, has_end}}
use Rattle.laws_driver.proofs.{Tabling.{opening_fits, replies_fit, leaves_kept}, Fits.{IsHeldBy, packet_fits}}
use Rattle.vs_conn.specs.declared.end.Verdict.TheVariants as verdict
use Rattle.laws_history.specs.Packets as packets

-- The driver t after it got a packet: it took the packet, and where packets come in order, its connections are those that a log with it leaves.
-- One that keeps the log fair wasn't refused, where the guest has asked the host alone.
pub record Gets (hosts : Bool) (p : Packet) (s t : DriverState) : Type 0 where
  pub matches : (first : ℕ) (log : Log) → let f = flow_got Driver p in
      Matches Driver first (ends_of_state s) log → IsInOrder (side_of Driver f) (heard_of Driver first f log) p
      → Matches Driver first (ends_of_state t) (GotPacket p ∷ log)
  pub fits : IsFitState hosts t
  pub broken : (first : ℕ) (log : Log) → Matches Driver first (ends_of_state s) log → IsFairLog Driver (GotPacket p ∷ log) → hosts ≡ true
      → t.broken ≡ s.broken
  pub answer : Bool
  pub ends : ends_of_state t ≡ after_taking Driver p answer (ends_of_state s)

-- Its fields fit.
taken_whole : (p : Packet) → FitsPorts p.header → IsWhole p → IsTaken p
taken_whole p ports whole = record { len = whole.len; payload = whole.none; fwd_cnt = ports.fwd_cnt }

-- A packet that isn't dropped, by the ends of its flow.
by_ends : (p : Packet) (answer : Bool) (part : Ends) (es : List ConnectionEnd) → is_dropped Driver part.cid p.header ≡ false
    → ends_of (flow_got Driver p) part.entries ≡ es
    → after_packet_on Driver es p (flow_got Driver p) answer part ≡ after_taking Driver p answer part
by_ends p answer part es kept are = grind (arith, common_steps)

module _ {hosts : Bool} (p : Packet) (e : DriverEntry) (s : DriverState) (fits : IsFitState hosts s) (stands : Stands s e) where
  stays : (c : DriverConnection) → c.end ≡ end_after e.value.end p.header → IsHeldBy c
      → (ends_of_state (with_connection e.slot c s) ≡ with_end e.flow (end_after e.value.end p.header) (ends_of_state s)) × IsFitState hosts (with_connection e.slot c s)
  stays c is held = (
    connection_ends s e c fits stands ∙ ap (λ (x : ConnectionEnd). with_end e.flow x (ends_of_state s)) is,
    connection_fits s e.slot c fits held
        (ap (λ (x : ConnectionEnd). x.kind) is ∙ got_kind e.value.end p.header ∙ (entry_fits s e fits stands).kind),
  )

  abbrev keeps : Bool
  keeps = is_kept Driver e.flow e.value.end p

  own_by : (asked own marked : Bool) → (asks_for (side_by Driver asked) && own && marked) ≡ true → asked ≡ false
  own_by false own marked is = refl
  own_by true own marked is = absurd cc

  -- A packet that is refused is counted, and the connection waits no more on its port.
  refused_by : (b : Bool) (c : DriverConnection) → let t : DriverState = with_connection e.slot c (record s { broken = counted s.broken }) in
      let u : DriverState = cond b (waits_no_more e t) t in
      (ends_of_state u ≡ ends_of_state (with_connection e.slot c s)) × (IsFitState hosts (with_connection e.slot c s) → IsFitState hosts u)
  refused_by true c = (refl, λ fit. fit)
  refused_by false c = (refl, λ fit. fit)

  -- A state that a connection leaves or in which it stays.
  peer_by : (b : Bool) (c : DriverConnection) → c.end ≡ end_after e.value.end p.header → IsHeldBy c
      → let t : DriverState = cond b (keeping keeps e.flow (after_leaving (record e { value = c }) s)) (with_connection e.slot c s) in
      (ends_of_state t ≡ cond b (with_clean keeps e.flow (left e.flow (ends_of_state s))) (with_end e.flow (end_after e.value.end p.header) (ends_of_state s)))
      × IsFitState hosts t × (t.broken ≡ s.broken)
  peer_by true c is held =
      let l = leaves_kept keeps s e c fits stands (own_by (host_asks e.flow) (is_both e.value.end.own) (is_clean_rst p)) in (l.ends, l.fits, l.broken)
  peer_by false c is held = let l = stays c is held in (l.0, l.1, refl)

  pub takes_by : (v : Verdict) → verdict_of e.value.end p.header ≡ v → IsWhole p → IsHeldBy e.value
      → (ends_of_state (after_verdict v p e s) ≡ cond (is_message v && is_reset p.header) (with_clean keeps e.flow (left e.flow (ends_of_state s)))
      (with_end e.flow (end_after e.value.end p.header) (ends_of_state s))) × IsFitState hosts (after_verdict v p e s)
      × (is_refused v ≡ false → (after_verdict v p e s).broken ≡ s.broken)
  takes_by (verdict.Rst why) is whole held =
      let c : DriverConnection = after_packet (verdict.Rst why) p e.value in
      let l = stays c refl (subst (λ (w : Verdict). IsHeldBy (after_packet w p e.value)) is (packet_fits p e.value whole held)) in
      let r = refused_by e.value.unanswered c in
      (r.0 ∙ l.0, r.1 l.1, λ kept. absurd cc)
  takes_by verdict.Peer is whole held =
      let l = peer_by (is_reset p.header) (after_packet verdict.Peer p e.value) refl
      (subst (λ (w : Verdict). IsHeldBy (after_packet w p e.value)) is (packet_fits p e.value whole held)) in
      (l.0, l.1, λ kept. l.2)
  takes_by v is whole held =
      let l = stays (after_packet v p e.value) refl (subst (λ (w : Verdict). IsHeldBy (after_packet w p e.value)) is (packet_fits p e.value whole held)) in
      (l.0, l.1, λ kept. refl)

  -- A connection leaves at an RST of its type, exactly.
  leaves_by : (v : Verdict) → (is_message v && is_reset p.header) ≡ (is_rst p && is_of e.value.end.kind p.header)
      → cond (is_message v && is_reset p.header) (with_clean keeps e.flow (left e.flow (ends_of_state s)))
      (with_end e.flow (end_after e.value.end p.header) (ends_of_state s)) ≡ taken Driver e.flow e.value.end p (ends_of_state s)
  leaves_by v same = ap (λ (b : Bool). cond b (with_clean keeps e.flow (left e.flow (ends_of_state s)))
      (with_end e.flow (end_after e.value.end p.header) (ends_of_state s))) same

leaving : (e : ConnectionEnd) (h : Header) → (is_message (verdict_of e h) && is_reset h) ≡ (is_reset h && is_of e.kind h)
leaving = search rules

-- A packet of a connection.
known : (hosts : Bool) (p : Packet) (e : DriverEntry) (s : DriverState) → IsFitState hosts s → Stands s e → flow_got Driver p ≡ e.flow → FitsPorts p.header
    → IsWhole p → is_dropped Driver s.cid p.header ≡ false → Gets hosts p s (on_known p e s)
known hosts p e s fits stands same ports whole kept_in =
    let f : Flow = flow_got Driver p in
    let end : ConnectionEnd = e.value.end in
    let part : Ends = ends_of_state s in
    let has : HasEnd f end part = subst (λ (g : Flow). HasEnd g end part) (sym same) (has_end s e fits stands) in
    let kept : (first : ℕ) (log : Log) → Matches Driver first part log → IsFairLog Driver (GotPacket p ∷ log) → hosts ≡ true
    → is_refused (verdict_of end p.header) ≡ false = λ first log m fair all.
    let host : f.peer ≡ HOST_CID = ap (λ (g : Flow). g.peer) same ∙ (entry_fits s e fits stands).peer all in
    got_not_refused Driver first p end part log m.flows has (fair f) (heard_all first f log host) in
    let held = (entry_fits s e fits stands).buffer in
    let by = takes_by p e s fits stands (verdict_of end p.header) refl whole held in
    let ends : ends_of_state (on_known p e s) ≡ taken Driver e.flow end p part = by.0 ∙ leaves_by p e s fits stands (verdict_of end p.header) (leaving end p.header) in
    let at : taken Driver f end p part ≡ ends_of_state (on_known p e s) = ap (λ (g : Flow). taken Driver g end p part) same ∙ sym ends in
    record {
      matches = λ first log m order. subst (λ (x : Ends). Matches Driver first x (GotPacket p ∷ log)) at
          (takes Driver first p end part log m kept_in has order (taken_whole p ports whole));
      fits = by.1;
      broken = λ first log m fair all. by.2 (kept first log m fair all);
      answer = false;
      ends = sym at ∙ by_ends p false part (end ∷ []) kept_in has;
    }

-- A packet of an unknown flow.
pub with_reply_fits : {hosts : Bool} (s : DriverState) (r : Reply) → IsFitState hosts s → IsFitFlow r.flow → IsFitState hosts (with_reply r s)
with_reply_fits s r fits ports = replies_fit s.cid (s.replies ++ r ∷ []) s fits fits.cid_fits (All-push IsFitReply s.replies r fits.owed ports)

record MayOpen (f : Flow) (s : DriverState) : Type 0 where
  peer : f.peer ≡ HOST_CID
  assigned : is_assigned f.host ≡ true
  place : slots_held s < DRIVER_CONNECTIONS
  id : s.next_id ≤ LAST_ID

may_open_as : (f : Flow) (s : DriverState) → may_open f s ≡ true → MayOpen f s
may_open_as f s is = grind (arith, common_steps)

answering_held : (h : Header) (id : ℕ) → IsHeldBy (record { id = id; end = answering Stream BUF_ALLOC h; unread = []; unanswered = true; closed = false })
answering_held h id = record { unread = refl; fits = omega arith; space = omega arith; least = omega arith; alloc = omega arith; rx_cnt = omega arith; fwd_cnt = omega arith }

module _ (hosts : Bool) (p : Packet) (s : DriverState) (fits : IsFitState hosts s) (none : entry_of s.table (flow_to_guest p.header) ≡ None)
    (ports : FitsPorts p.header) (whole : IsWhole p) (kept_in : is_dropped Driver s.cid p.header ≡ false) where
  no_end : HasNone (flow_got Driver p) (ends_of_state s)
  no_end = no_entry end_in s.table (flow_to_guest p.header) none

  flow_fits : IsFitFlow (flow_to_guest p.header)
  flow_fits = record { guest = ports.dst_port; host = ports.src_port; peer = ports.src_cid }

  replied : is_rst p ≡ false → Gets hosts p s (with_reply (reply_to (flow_to_guest p.header) p.header) s)
  replied other = record {
    matches = λ first log m order. refuses Driver first p (ends_of_state s) log m kept_in no_end other order;
    fits = with_reply_fits s (reply_to (flow_to_guest p.header) p.header) fits flow_fits;
    broken = λ first log m fair all. refl;
    answer = false;
    ends = refused_by (packets.is_request p)
        ∙ ap (λ (b : Bool). cond b (ends_of_state s) (answered (packets.is_request p) false p (flow_got Driver p) (ends_of_state s))) (sym other)
        ∙ by_ends p false (ends_of_state s) [] kept_in no_end;
  }
    where
      refused_by : (b : Bool) → ends_of_state (with_reply (reply_to (flow_to_guest p.header) p.header) s)
          ≡ answered b false p (flow_got Driver p) (ends_of_state s)
      refused_by true = refl
      refused_by false = refl

  was_ignored : is_rst p ≡ true → Gets hosts p s s
  was_ignored rst = record {
    matches = λ first log m order. ignores Driver first p (ends_of_state s) log m kept_in no_end rst order;
    fits = fits;
    broken = λ first log m fair all. refl;
    answer = false;
    ends = ap (λ (b : Bool). cond b (ends_of_state s) (answered (packets.is_request p) false p (flow_got Driver p) (ends_of_state s))) (sym rst)
        ∙ by_ends p false (ends_of_state s) [] kept_in no_end;
  }

  was_accepted : is_request p.header ≡ true → may_open (flow_to_guest p.header) s ≡ true → Gets hosts p s (with_request (flow_to_guest p.header) p.header s)
  was_accepted asks may =
      let f : Flow = flow_to_guest p.header in
      let room = may_open_as f s may in
      let asked : host_asks f ≡ true = host_asks_to f room.peer ∙ room.assigned in
      let c : DriverConnection = record { id = s.next_id; end = answering Stream BUF_ALLOC p.header; unread = []; unanswered = true; closed = false } in
      let free : IsAccepted s.table f = record { absent = none; place = omega (arith, room.place, fits.places); slot = omega (arith, fits.given, room.id) } in
      let asks_for = and_parts (is_of Stream p.header) (packets.is_request p) asks in
      let request : packets.is_request p ≡ true = asks_for.1 in
      let ends : ends_of_state (with_request f p.header s) ≡ accepted f Stream p.header (ends_of_state s) =
      ap (λ (es : List FlowEnd). let part : Ends = record (ends_of_state s) { entries = es } in part) (added_slot end_in s.table f c) in
      record {
        matches = λ first log m order. subst (λ (x : Ends). Matches Driver first x (GotPacket p ∷ log)) (sym ends)
            (accepts Driver first Stream p (ends_of_state s) log m kept_in no_end order (taken_whole p ports whole) request
            (eqb-true p.header.kind 1 asks_for.0));
        fits = opening_fits s f c s.next_port s.clean fits free flow_fits (λ all. room.peer) (answering_held p.header s.next_id) refl fits.port_left (omega arith)
            (λ own. let both : true ≡ false = sym asked ∙ own in absurd cc) fits.clean_fit
            (clean_entry s.next_port s.next_port s.table f c s.clean fits.clean_sound
            (none_assigned s.next_port s.table f s.clean fits.clean_sound asked) (omega arith));
        broken = λ first log m fair all. refl;
        answer = true;
        ends = ends
            ∙ ap (λ (k : Kind). accepted f k p.header (ends_of_state s)) (sym (ap answer_kind (eqb-true p.header.kind 1 asks_for.0)))
            ∙ ap (λ (b : Bool). answered b true p f (ends_of_state s)) (sym request)
            ∙ ap (λ (b : Bool). cond b (ends_of_state s) (answered (packets.is_request p) true p f (ends_of_state s))) (sym (not_rst request))
            ∙ by_ends p true (ends_of_state s) [] kept_in no_end;
      }
    where
      not_rst : packets.is_request p ≡ true → is_rst p ≡ false
      not_rst is = grind (arith, nat_tests, common_steps, is)

  unknown : Gets hosts p s (on_unknown p s)
  unknown = by (is_reset p.header) (is_request p.header) (may_open (flow_to_guest p.header) s) refl refl refl
    where
      by : (a b c : Bool) → is_reset p.header ≡ a → is_request p.header ≡ b → may_open (flow_to_guest p.header) s ≡ c
          → Gets hosts p s (cond a s (cond (b && c) (with_request (flow_to_guest p.header) p.header s) (with_reply (reply_to (flow_to_guest p.header) p.header) s)))
      by true b c av bv cv = was_ignored av
      by false true true av bv cv = was_accepted bv cv
      by false true false av bv cv = replied av
      by false false c av bv cv = replied av

-- A packet that is got.
pub gets_packet : (hosts : Bool) (p : Packet) (s : DriverState) → IsFitState hosts s → FitsPorts p.header → IsWhole p
    → Gets hosts p s (on_packet p s)
gets_packet hosts p s fits ports whole = drop_by (is_dropped Driver s.cid p.header) refl
  where
    by : (o : Option DriverEntry) → entry_of s.table (flow_to_guest p.header) ≡ o → is_dropped Driver s.cid p.header ≡ false
        → Gets hosts p s (on_heard p s)
    by None none kept_in =
        subst (λ (t : DriverState). Gets hosts p s t) (sym (packet_unknown p s none)) (unknown hosts p s fits none ports whole kept_in)
    by (Some e) found kept_in =
        let passes = found_by (λ (x : DriverEntry). same_flow (flow_to_guest p.header) x.flow) s.table.entries e found in
        let stands : Stands s e = record { under = found_under _ s.table e fits.sound found; contains = passes.0 } in
        let same = same_is (flow_to_guest p.header) e.flow passes.1 in
        subst (λ (t : DriverState). Gets hosts p s t) (sym (packet_known p s e found)) (known hosts p e s fits stands same ports whole kept_in)

    drop_by : (b : Bool) → is_dropped Driver s.cid p.header ≡ b → Gets hosts p s (cond b s (on_heard p s))
    drop_by true dropped = record {
      matches = λ first log m order. drops Driver first p (ends_of_state s) log m dropped (λ asks. order);
      fits = fits;
      broken = λ first log m fair all. refl;
      answer = false;
      ends = ap (λ (b : Bool). cond b (ends_of_state s)
          (after_packet_on Driver (ends_of (flow_got Driver p) (ends_of_state s).entries) p (flow_got Driver p) false (ends_of_state s))) (sym dropped);
    }
    drop_by false kept_in = by (entry_of s.table (flow_to_guest p.header)) refl kept_in

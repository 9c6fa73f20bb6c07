-- The steps at which the driver puts a packet: a connection of its own is asked for, payload is sent, what is owed is paid.
use Rattle.std.proofs.Common.{◌≡◌, ℕ, ◌<◌, ◌≤◌, ◌^◌, Bool, false, List, [], ◌∷◌, length, Some, None, refl, sym, ap, subst, ◌∙◌, arith, nat_le, true, cond}
use Rattle.std.{proofs.lemmas.{Bool.Decides.nat_tests, List.{append-nil, Elements.{All-head, All-tail, All-cons}}}, specs.List.{All, find}}
use Rattle.vs_conn.specs.{Headers.{owed_flags, owed_header, owed_op, payload_header}, End.{CanSend, ConnectionEnd, asked, owes_of, paid_of, with_payload_sent}}
use Rattle.vs_conn.{specs.{declared.end.Owed.Owed, Follows.FitsMessage}, proofs.{Frames.paid_kind, Steps.stream_fits}}
use Rattle.vs_header.specs.{Packet.header_bytes, declared.{Header.Header, Kind.TheVariants.Stream}}
use Rattle.laws_history.specs.History.{puts}
use Rattle.vs_limits.specs.declared.TheConstants.{HOST_CID, BUF_ALLOC, LAST_PORT}
use Rattle.vs_flow.{specs.{Flow.same_flow, declared.flow.Flow.Flow, CleanPairs.goes_to}, proofs.{Tables.IsAccepted, Entries.All_at, Lookups.find_place}}
use Rattle.vs_page.specs.{Log.{Driver, Log, history_of, side_by}, Held.FitsWire, declared.{log.LogEntry.TheVariants.PutPacket, page.TheConstants.PAYLOAD_MAX}}
use Rattle.vs_page.proofs.Packets.{held_alone, held_payload}
use Rattle.vs_replies.specs.declared.Reply.{Reply}
use Rattle.laws_tables.specs.{Steps.{IsNextFlow, opened, owed_on, paid, payload_on, reply_on, request_on, with_end, port_after}, Ends.{Ends, FlowEnd, without as flows_without}}
use Rattle.laws_tables.{specs.Matches.Matches, proofs.{Keeps.{opens, opens_fair, pays, pays_fair, replies, replies_fair, sends, sends_fair}, Slots.added_slot}}
use Rattle.laws_tables.proofs.{OwedFlags.owed_flags_fit, Wire.{FitsRoute, header_fits, reset_fits}}
use Rattle.vs_driver_parts.specs.{Connections.{connect_refusal, connected, next_flow, paid_connection, route_to_host, with_connection, free_flow}, Conversations.after_paying}
use Rattle.vs_driver_parts.specs.{Conversations.{owed_bytes, payload_bytes, reply_header, request_bytes}, State.{DriverConnection, DriverEntry, DriverState}}
use Rattle.vs_driver_parts.proofs.Clean.{again_is, fresh_is, given_absent, given_clean, given_from, given_to, given_within, may_connect, port_below, port_rises}
use Rattle.laws_driver.{specs.Honest.{IsFitFlow, IsFitReply, IsFitState, end_in, ends_of_state, IsFitClean}, proofs.{Fits.{IsHeldBy, paid_fits, sent_fits}, Tabling.Stands}}
use Rattle.laws_driver.proofs.{Tabling.{connection_ends, connection_fits, entry_fits, has_end, leaves, opening_fits, replies_fit}, Going.at_log}
use Rattle.laws_driver.proofs.Ringing.{Puts}
use Rattle.vs_conn.specs.declared.end.Owed.TheVariants as owed
use Rattle.vs_header.specs.declared.Op.TheVariants as op
use Rattle.vs_driver_parts.specs.Connections as connections
use Rattle.laws_tables.specs.Both as seats

route_fits : (cid : ℕ) (f : Flow) → cid < 2 ^ 64 → IsFitFlow f → FitsRoute (route_to_host cid f)
route_fits cid f fits ports = record { src_cid = fits; dst_cid = ports.peer; src_port = ports.guest; dst_port = ports.host }

-- The packet that a connection owes is put.
pub record Pays (hosts : Bool) (what : Owed) (e : DriverEntry) (s t : DriverState) : Type 0 where
  pub ends : ends_of_state t ≡ paid e.flow e.value.end what (ends_of_state s)
  pub fits : IsFitState hosts t
  pub broken : t.broken ≡ s.broken

module _ {hosts : Bool} where
  pays_by : (what : Owed) (e : DriverEntry) (s : DriverState) (c : DriverConnection) → c.end ≡ paid_of e.value.end what → IsHeldBy c → IsFitState hosts s
      → Stands s e → (ends_of_state (with_connection e.slot c s) ≡ with_end e.flow (paid_of e.value.end what) (ends_of_state s)) × IsFitState hosts (with_connection e.slot c s)
  pays_by what e s c is held fits stands = (
    connection_ends s e c fits stands ∙ ap (λ (x : ConnectionEnd). with_end e.flow x (ends_of_state s)) is,
    connection_fits s e.slot c fits held
        (ap (λ (x : ConnectionEnd). x.kind) is ∙ paid_kind e.value.end what ∙ (entry_fits s e fits stands).kind),
  )

  pays_state : (what : Owed) (e : DriverEntry) (s : DriverState) → IsFitState hosts s → Stands s e → IsHeldBy e.value → Pays hosts what e s (after_paying what e s)
  pays_state owed.Rst e s fits stands held = let l = leaves s e e.value fits stands in record { ends = l.ends; fits = l.fits; broken = l.broken }
  pays_state what e s fits stands held =
      let l = pays_by what e s (paid_connection what e.value) refl (paid_fits what e.value held) fits stands in
      record { ends = l.0; fits = l.1; broken = refl }

  pub owed_puts : (what : Owed) (e : DriverEntry) (s : DriverState) → IsFitState hosts s → Stands s e → owes_of e.value.end ≡ Some what
      → Puts hosts (owed_on Driver s.cid e.flow e.value.end what) s (owed_bytes what e s) (after_paying what e s)
  owed_puts what e s fits stands owes =
      let entry = entry_fits s e fits stands in
      let end : ConnectionEnd = e.value.end in
      let h : Header = owed_header end (route_to_host s.cid e.flow) what in
      let wire : FitsWire h =
      header_fits (route_to_host s.cid e.flow) (route_fits s.cid e.flow fits.cid_fits entry.ports) end (owed_op what) (owed_flags end what) 0 entry.buffer.alloc entry.buffer.fwd_cnt
      (owed_flags_fit end what owes) (omega arith) in
      let step = pays_state what e s fits stands entry.buffer in
      let has = has_end s e fits stands in
      record {
        held = held_alone h wire refl;
        bytes = sym (append-nil (header_bytes h));
        fits = step.fits;
        broken = step.broken;
        matches = λ first log m.
            subst (λ (part : Ends). Matches Driver first part (PutPacket (owed_on Driver s.cid e.flow end what) ∷ log)) (sym step.ends)
            (pays Driver first s.cid e.flow end what (ends_of_state s) log m has owes);
        fair = λ first log m fair. pays_fair Driver first s.cid e.flow end what (ends_of_state s) log m fair has owes;
        wire = wire;
        step = seats.Pays e.flow end what;
        may = λ log. (has, owes);
        leads = λ log. at_log (PutPacket (owed_on Driver s.cid e.flow end what) ∷ log) _ _ (sym step.ends);
      }

  -- The oldest reply is put.
  pub reply_puts : (reply : Reply) (rest : List Reply) (s : DriverState) → IsFitState hosts s → s.replies ≡ reply ∷ rest
      → Puts hosts (reply_on Driver s.cid reply) s (header_bytes (reply_header s.cid reply)) (record s { replies = rest })
  reply_puts reply rest s fits is =
      let owed : All IsFitReply (reply ∷ rest) = subst (λ (rs : List Reply). All IsFitReply rs) is fits.owed in
      let wire = reset_fits _ (route_fits s.cid reply.flow fits.cid_fits (All-head IsFitReply reply rest owed)) reply.kind in
      record {
        held = held_alone (reply_header s.cid reply) wire refl;
        bytes = sym (append-nil (header_bytes (reply_header s.cid reply)));
        fits = replies_fit s.cid rest s fits fits.cid_fits (All-tail IsFitReply reply rest owed);
        broken = refl;
        matches = λ first log m. replies Driver first s.cid reply rest (ends_of_state s) log m is;
        fair = λ first log m fair. replies_fair Driver first s.cid reply rest (ends_of_state s) log m fair is;
        wire = wire;
        step = seats.Replies reply rest;
        may = λ log. is;
        leads = λ log. refl;
      }

  -- Payload is sent.
  pub send_puts : (e : DriverEntry) (payload : List ℕ) (s : DriverState) → IsFitState hosts s → Stands s e → CanSend e.value.end (length payload)
      → length payload ≤ PAYLOAD_MAX → Puts hosts (payload_on Driver s.cid e.flow e.value.end payload) s (payload_bytes e payload s)
      (connections.with_end (with_payload_sent e.value.end (length payload)) e s)
  send_puts e payload s fits stands can few =
      let entry = entry_fits s e fits stands in
      let end : ConnectionEnd = e.value.end in
      let now : DriverConnection = record e.value { end = with_payload_sent end (length payload) } in
      let h : Header = payload_header end (route_to_host s.cid e.flow) (length payload) in
      let small : length payload < 2 ^ 32 = omega (arith, few) in
      let wire : FitsWire h = header_fits _ (route_fits s.cid e.flow fits.cid_fits entry.ports) end op.Rw 0 (length payload) entry.buffer.alloc entry.buffer.fwd_cnt (omega arith) small in
      let has = has_end s e fits stands in
      let fits_message : (log : Log) → FitsMessage end (puts (history_of Driver e.flow log)) (length payload) =
      λ log. stream_fits end (puts (history_of Driver e.flow log)) (length payload) entry.kind in
      record {
        held = held_payload h payload wire refl refl;
        bytes = refl;
        fits = connection_fits s e.slot now fits (sent_fits (length payload) e.value entry.buffer) entry.kind;
        broken = refl;
        matches = λ first log m.
            subst (λ (part : Ends). Matches Driver first part (PutPacket (payload_on Driver s.cid e.flow end payload) ∷ log)) (sym (connection_ends s e now fits stands))
            (sends Driver first s.cid e.flow end payload (ends_of_state s) log m has can (fits_message log));
        fair = λ first log m fair. sends_fair Driver first s.cid e.flow end payload (ends_of_state s) log m fair has can (fits_message log);
        wire = wire;
        step = seats.Sends e.flow end payload;
        may = λ log. (has, can, fits_message log);
        leads = λ log. at_log (PutPacket (payload_on Driver s.cid e.flow end payload) ∷ log) _ _ (sym (connection_ends s e now fits stands));
      }

-- A connection is asked for.
found_has : (Q : Flow → Type 0) (test : Flow → Bool) (fs : List Flow) (f : Flow) → All Q fs → find test fs ≡ Some f → Q f
found_has Q test fs f all found = let place = find_place test fs f found in All_at Q fs place.0 f all place.1

module _ {hosts : Bool} where
  next_fits : (peer to : ℕ) (s : DriverState) → peer < 2 ^ 64 → to < 2 ^ 32 → (hosts ≡ true → peer ≡ HOST_CID) → IsFitState hosts s → (f : Flow)
      → free_flow peer to s.next_port s.clean ≡ Some f → IsFitClean hosts f
  next_fits peer to s peer_fits to_fits all fits f is = by (nat_le s.next_port LAST_PORT) refl
    where
      by : (b : Bool) → nat_le s.next_port LAST_PORT ≡ b → IsFitClean hosts f
      by true left =
          let below : s.next_port ≤ LAST_PORT = grind (arith, nat_tests, left) in
          subst (λ (g : Flow). IsFitClean hosts g) (sym (fresh_is peer to s.next_port s.clean f left is))
          (record { ports = record { guest = omega (arith, below); host = to_fits; peer = peer_fits }; peer = all })
      by false spent = found_has (IsFitClean hosts) (goes_to peer to) s.clean f fits.clean_fit (again_is peer to s.next_port s.clean f spent is)

  fit_without : (f : Flow) (fs : List Flow) → All (IsFitClean hosts) fs → All (IsFitClean hosts) (flows_without f fs)
  fit_without f [] all = all
  fit_without f (g ∷ gs) all = by (same_flow f g) (fit_without f gs (All-tail (IsFitClean hosts) g gs all))
    where
      by : (b : Bool) → All (IsFitClean hosts) (flows_without f gs) → All (IsFitClean hosts) (cond b (flows_without f gs) (g ∷ flows_without f gs))
      by true rest = rest
      by false rest = All-cons (IsFitClean hosts) g (flows_without f gs) (All-head (IsFitClean hosts) g gs all) rest

asked_held : IsHeldBy (record { id = 0; end = paid_of (asked Stream BUF_ALLOC) owed.Request; unread = []; unanswered = false; closed = false })
asked_held = record { unread = refl; fits = omega arith; space = omega arith; least = omega arith; alloc = omega arith; rx_cnt = omega arith; fwd_cnt = omega arith }

module _ {hosts : Bool} where
  pub connect_puts : (peer to : ℕ) (s : DriverState) → peer < 2 ^ 64 → to < 2 ^ 32 → (hosts ≡ true → peer ≡ HOST_CID) → IsFitState hosts s
      → connect_refusal peer to s ≡ None
      → Puts hosts (request_on Driver s.cid (next_flow peer to s) Stream) s (request_bytes peer to s) (connected peer to s)
  connect_puts peer to s peer_fits to_fits all fits free =
      let may = may_connect peer to s free in
      let f : Flow = next_flow peer to s in
      let fit = next_fits peer to s peer_fits to_fits all fits f may.flow in
      let ports : IsFitFlow f = fit.ports in
      let goes = given_to peer to s.next_port s.clean f may.flow in
      let given : free_flow f.peer f.host s.next_port s.clean ≡ Some f =
      ap (λ (n : ℕ). free_flow n f.host s.next_port s.clean) goes.peer_is ∙ ap (λ (n : ℕ). free_flow peer n s.next_port s.clean) goes.port_is ∙ may.flow in
      let h : Header = owed_header (asked Stream BUF_ALLOC) (route_to_host s.cid f) owed.Request in
      let wire : FitsWire h = header_fits _ (route_fits s.cid f fits.cid_fits ports) (asked Stream BUF_ALLOC) op.Request 0 0 (omega arith) (omega arith) (omega arith) (omega arith) in
      let next : IsNextFlow Driver f (ends_of_state s) =
      record { asker = ap (λ (b : Bool). side_by Driver b) may.own; port = given_from peer to s.next_port s.clean f may.flow } in
      let c : DriverConnection = record { id = s.next_id; end = paid_of (asked Stream BUF_ALLOC) owed.Request; unread = []; unanswered = false; closed = false } in
      let accepted : IsAccepted s.table f = record {
        absent = given_absent s.next_port s.table s.clean fits.clean_sound f fits.ports may.own given;
        place = omega (arith, may.place, fits.places);
        slot = omega (arith, fits.given, may.id);
      } in
      let ends : ends_of_state (connected peer to s) ≡ opened Driver f Stream (ends_of_state s) =
      ap (λ (es : List FlowEnd). let part : Ends = record (ends_of_state s) {
        entries = es;
        next_port = port_after s.next_port f.guest;
        clean = flows_without f s.clean;
      } in part) (added_slot end_in s.table f c) in
      record {
        held = held_alone h wire refl;
        bytes = sym (append-nil (header_bytes h));
        fits = opening_fits s f c (port_after s.next_port f.guest) (flows_without f s.clean) fits accepted ports fit.peer asked_held refl
            (given_within s.next_port s.table s.clean fits.clean_sound f given fits.port_left) (port_rises s.next_port f.guest)
            (λ mine. port_below s.next_port f.guest) (fit_without f s.clean fits.clean_fit)
            (given_clean s.next_port s.table s.clean fits.clean_sound f c);
        broken = refl;
        matches = λ first log m.
            subst (λ (part : Ends). Matches Driver first part (PutPacket (request_on Driver s.cid f Stream) ∷ log)) (sym ends)
            (opens Driver first s.cid f Stream (ends_of_state s) log m next);
        fair = λ first log m fair. opens_fair Driver first s.cid f Stream (ends_of_state s) log m fair next;
        wire = wire;
        step = seats.Opens f Stream;
        may = λ log. next;
        leads = λ log. at_log (PutPacket (request_on Driver s.cid f Stream) ∷ log) _ _ (sym ends);
      }

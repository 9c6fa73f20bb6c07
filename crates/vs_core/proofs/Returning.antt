-- No step of the device's or the proxy's but one returns a chain with nothing.
use Rattle.std.proofs.Common.{ℕ, ◌-◌, ◌==◌, ◌&&◌, not, nat_lt, nat_le, Bool, true, false, cond, List, [], ◌∷◌, ◌++◌, length, Some, Result, Ok, Err, arith}
use Rattle.vs_contents.specs.CallTree.{Done, bind, for_each}
use Rattle.vs_conn.specs.{End.{owes_of, is_reset, is_of, verdict_of, wanting_credit}, Headers.{owed_header, payload_header}, declared.end.{Owed.Owed, Verdict.Verdict}}
use Rattle.vs_flow.specs.{Flow.is_assigned, declared.flow.Flow.Flow, Table.{entry_of, entry_under, has_place, refusal, slots}}
use Rattle.vs_header.specs.{Op.op_number, Packet.header_of, declared.{Header.Header, TheConstants.HEADER_LEN, Op.TheVariants.Request, Kind.TheVariants.Stream}}
use Rattle.vs_outside.specs.declared.host_net.{StreamRead.StreamRead, StreamWrite.StreamWrite}
use Rattle.vs_page.specs.{Log.{flow_to_host, Device}, Open.is_dropped}
use Rattle.vs_replies.specs.declared.Reply.{Reply}
use Rattle.vs_ring_port.specs.declared.{queue.Queue.{TheVariants.{Rx, Tx, Event}, Queue}, device_ring.{Chain.Chain, Next.Next}, failure.Failure.Failure}
use Rattle.vs_uds.specs.{ConnectLine.connect_step, declared.scan.Step.Step}
use Rattle.vs_device_parts.specs.Receiving.{Filling, after_paying, hold, may_read, put_owed, put_packet, put_reply_of, read_answered, read_with_chain, written, put_on}
use Rattle.vs_device_parts.specs.{Receiving.reply_header, Steps.{chain_came, filling, puts_event, puts_owed, puts_payload, puts_reply, reads, shuts_write, takes_chain, writes}}
use Rattle.vs_device_parts.specs.{Steps.{writes_on, writing}, Streams.{Writing, closing, is_written_out, leaving, shut_write, tick_slot, to_write, write_answered, write_pending}}
use Rattle.vs_device_parts.specs.{Connections.{cut_off, is_late, is_timed_out, route_to_guest, stream_closed, with_connection, with_fault}, Transmitting.heard}
use Rattle.vs_device_parts.specs.{Transmitting.{keeps_flow, on_known, on_packet, on_unknown}, Calls.DeviceTree, State.{DeviceConnection, DeviceEntry, DeviceState}, Turns.{close_slot, open_of, reset_of}}
use Rattle.vs_limits.specs.declared.TheConstants.{DEVICE_REPLIES, HANDSHAKES}
use Rattle.vs_proxy_parts.specs.{Handshakes.{accept_one, byte_read, handshake_on, line_decided, next_flow, opening, read_byte, streams_of, tick_handshake}, State.Handshake}
use Rattle.vs_proxy_parts.specs.{State.{ProxyState, Turning}, Turns.{close_handshake, proxy_reset_of, reset_with}}
use Rattle.laws_world.proofs.Holding.{AllReturnSome, bind_some, cond_some, option_some}
use Rattle.vs_conn.specs.declared.end.Owed.TheVariants as owed
use Rattle.vs_conn.specs.declared.end.Verdict.TheVariants as verdict
use Rattle.vs_conn.specs.declared.end.Why.TheVariants as why
use Rattle.vs_outside.specs.declared.host_net.StreamRead.TheVariants as read
use Rattle.vs_outside.specs.declared.host_net.StreamWrite.TheVariants as write
use Rattle.vs_ring_port.specs.declared.device_ring.Next.TheVariants as next
use Rattle.vs_uds.specs.declared.scan.Step.TheVariants as line

each_some : {X A : Type 0} (step : X → A → DeviceTree A) → ((i : X) (x : A) → AllReturnSome (step i x)) → (is : List X) (x : A)
    → AllReturnSome (for_each step is x)
each_some step each [] x = tt
each_some step each (i ∷ is) x = bind_some (step i x) (for_each step is) (each i x) (λ y. each_some step each is y)

-- A stream is closed.
closing_some : (e : DeviceEntry) (f : DeviceConnection → DeviceConnection) (s : DeviceState) → AllReturnSome (closing e f s)
closing_some e f s = cond_some e.value.closed _ _ tt (tt, λ a. tt)

leaving_some : (keep : Bool) (e : DeviceEntry) (s : DeviceState) → AllReturnSome (leaving keep e s)
leaving_some keep e s = bind_some (closing e stream_closed s) _ (closing_some e stream_closed s) (λ t. tt)

-- A packet is taken.
known_some : (v : Verdict) (chain : Chain) (h : Header) (e : DeviceEntry) (s : DeviceState) → AllReturnSome (on_known v chain h e s)
known_some verdict.Accept chain h e s = tt
known_some verdict.Deliver chain h e s = (tt, λ payload. tt)
known_some verdict.Discard chain h e s = tt
known_some verdict.Peer chain h e s = cond_some (is_reset h) _ _ (leaving_some (keeps_flow h e) (record e { value = heard h e.value }) s) tt
known_some (verdict.Rst (why.Overrun o)) chain h e s = tt
known_some (verdict.Rst _) chain h e s = tt
known_some verdict.Ignore chain h e s = tt

unknown_some : (h : Header) (s : DeviceState) → AllReturnSome (on_unknown h s)
unknown_some h s =
    cond_some (is_reset h) _ _ tt
    (cond_some (is_of Stream h && (h.op == op_number Request)) _ _
    (cond_some (is_assigned h.dst_port) _ _ tt (cond_some (has_place s.table) _ _ (tt, λ answer. tt) tt)) tt)

packet_some : (chain : Chain) (h : Header) (s : DeviceState) → AllReturnSome (on_packet chain h s)
packet_some chain h s =
    cond_some (is_dropped Device s.cid h) _ _ tt
    (option_some (entry_of s.table (flow_to_host h)) _ _ (unknown_some h s)
    (λ e. bind_some (on_known (verdict_of e.value.end h) chain h e s) _ (known_some (verdict_of e.value.end h) chain h e s) (λ t. tt)))

came_some : (answer : Next) (s : DeviceState) → AllReturnSome (chain_came answer s)
came_some (next.Chain chain) s = (
  tt,
  λ bytes. cond_some (nat_lt (chain.readable - HEADER_LEN) (header_of bytes).len) _ _ tt
      (bind_some (on_packet chain (header_of bytes) s) _ (packet_some chain (header_of bytes) s) (λ r. tt)),
)
came_some next.None s = tt
came_some (next.Failed f) s = tt

hold_some : (r : Filling) → AllReturnSome (hold r)
hold_some r = option_some r.state.chain _ _ (tt, λ answer. tt) (λ chain. tt)

pub takes_some : (queue : Queue) (s : DeviceState) → AllReturnSome (takes_chain queue s)
takes_some Tx s = cond_some (nat_le DEVICE_REPLIES (length s.replies)) _ _ tt (tt, λ answer. came_some answer s)
takes_some Rx s = bind_some (hold (filling s)) _ (hold_some (filling s)) (λ r. tt)
takes_some Event s = cond_some s.event_owed _ _ (tt, λ answer. tt) tt

-- Packets and the event are put.
pub event_some : (chain : Chain) (s : DeviceState) → AllReturnSome (puts_event chain s)
event_some chain s = cond_some s.event_owed _ _ (tt, λ a. (omega arith, λ b. tt)) tt

written_some : (chain : Chain) (h : Header) (payload : List ℕ) → AllReturnSome (written chain h payload)
written_some chain h [] = (tt, λ a. (omega arith, λ b. tt))
written_some chain h (byte ∷ payload) = (tt, λ a. (tt, λ b. (omega arith, λ d. tt)))

put_on_some : (chain : Chain) (h : Header) (payload : List ℕ) (r : Filling) → AllReturnSome (put_on chain h payload r)
put_on_some chain h payload r = bind_some (written chain h payload) _ (written_some chain h payload) (λ u. tt)

put_some : (h : Header) (f : DeviceState → DeviceTree DeviceState) (r : Filling) → ((s : DeviceState) → AllReturnSome (f s))
    → AllReturnSome (put_packet h f r)
put_some h f r rest =
    bind_some (hold r) _ (hold_some r)
    (λ q. option_some q.state.chain _ _ tt
    (λ chain. bind_some (put_on chain h [] q) _ (put_on_some chain h [] q)
    (λ p. bind_some (f p.state) (λ s. Done (record p { state = s })) (rest p.state) (λ s. tt))))

reply_of_some : (replies : List Reply) (r : Filling) → AllReturnSome (put_reply_of replies r)
reply_of_some [] r = tt
reply_of_some (reply ∷ replies) r =
    let f : DeviceState → DeviceTree DeviceState = λ s. Done (record s { replies = replies }) in
    bind_some (put_packet (reply_header reply r.state) f r) _ (put_some (reply_header reply r.state) f r (λ s. tt)) (λ q. tt)

pub reply_some : (s : DeviceState) → AllReturnSome (puts_reply s)
reply_some s = option_some s.chain _ _ tt
    (λ chain. bind_some (put_reply_of s.replies (filling s)) _ (reply_of_some s.replies (filling s)) (λ q. tt))

paying_some : (what : Owed) (e : DeviceEntry) (s : DeviceState) → AllReturnSome (after_paying what e s)
paying_some owed.Rst e s = leaving_some false e _
paying_some _ e s = tt

what_some : (what : Owed) (e : DeviceEntry) (r : Filling)
    → AllReturnSome {A = Filling × Bool} (bind
    (put_packet (owed_header e.value.end (route_to_guest r.state.cid e.flow) what) (after_paying what e) r)
    (λ q. Done (q, not q.over)))
what_some what e r =
    let h = owed_header e.value.end (route_to_guest r.state.cid e.flow) what in
    bind_some (put_packet h (after_paying what e) r) _ (put_some h (after_paying what e) r (λ s. paying_some what e s)) (λ q. tt)

owed_some : (slot : ℕ) (r : Filling) → AllReturnSome (put_owed slot r)
owed_some slot r =
    option_some (entry_under r.state.table slot) _ _ tt
    (λ e. option_some (owes_of e.value.end) _ _ tt
    (λ what. what_some what e r))

pub pays_some : (slot : ℕ) (s : DeviceState) → AllReturnSome (puts_owed slot s)
pays_some slot s = option_some s.chain _ _ tt (λ chain. bind_some (put_owed slot (filling s)) _ (owed_some slot (filling s)) (λ q. tt))

answered_some : (chain : Chain) (e : DeviceEntry) (a : StreamRead) (payload : List ℕ) (r : Filling)
    → AllReturnSome (read_answered chain e a payload r)
answered_some chain e (read.Got n) payload r =
    let h = payload_header e.value.end (route_to_guest r.state.cid e.flow) (length payload) in
    bind_some (put_on chain h payload r) _ (put_on_some chain h payload r) (λ p. tt)
answered_some chain e read.Again payload r = tt
answered_some chain e read.End payload r = tt
answered_some chain e read.Failed payload r =
    bind_some (closing e cut_off (with_fault r.state)) _ (closing_some e cut_off (with_fault r.state)) (λ s. tt)

reads_chain_some : (e : DeviceEntry) (r : Filling) → AllReturnSome (read_with_chain e r)
reads_chain_some e r = option_some r.state.chain _ _ tt (λ chain. (tt, λ answer. answered_some chain e answer.0 answer.1 r))

with_credit_some : (b : Bool) (e : DeviceEntry) (s : DeviceState)
    → AllReturnSome (cond b (Done (with_connection e.slot (record e.value { end = wanting_credit e.value.end }) s))
    (bind (read_with_chain e (filling s)) (λ r. Done r.state)))
with_credit_some true e s = tt
with_credit_some false e s = bind_some (read_with_chain e (filling s)) _ (reads_chain_some e (filling s)) (λ r. tt)

reads_some : (e : DeviceEntry) (s : DeviceState) → AllReturnSome (reads e s)
reads_some e s = cond_some (may_read e.value.end e.value.end.state) _ (Done s) (with_credit_some _ e s) tt

pub payload_some : (slot : ℕ) (s : DeviceState) → AllReturnSome (puts_payload slot s)
payload_some slot s = option_some (entry_under s.table slot) (Done s) (λ e. reads e s) tt (λ e. reads_some e s)

-- Streams are written to and shut, and what waits too long ends.
wrote_some : (e : DeviceEntry) (a : StreamWrite) (w : Writing) → AllReturnSome (write_answered e a w)
wrote_some e (write.Took n) w = tt
wrote_some e write.Again w = tt
wrote_some e write.Closed w = tt
wrote_some e write.Failed w = bind_some (closing e cut_off (with_fault w.state)) _ (closing_some e cut_off (with_fault w.state)) (λ s. tt)

pending_some : (e : DeviceEntry) (w : Writing) → AllReturnSome (write_pending e w)
pending_some e w = cond_some (length (to_write e.value) == 0) _ _ tt (tt, λ answer. wrote_some e answer w)

writes_on_some : (e : DeviceEntry) (s : DeviceState) → AllReturnSome (writes_on e s)
writes_on_some e s =
    cond_some e.value.closed (Done s) (bind (write_pending e (writing s)) (λ w. Done w.state)) tt
    (bind_some (write_pending e (writing s)) _ (pending_some e (writing s)) (λ w. tt))

pub writes_some : (slot : ℕ) (s : DeviceState) → AllReturnSome (writes slot s)
writes_some slot s = option_some (entry_under s.table slot) (Done s) (λ e. writes_on e s) tt (λ e. writes_on_some e s)

pub shuts_some : (slot : ℕ) (s : DeviceState) → AllReturnSome (shuts_write slot s)
shuts_some slot s =
    bind_some (shut_write slot (writing s)) _
    (option_some (entry_under s.table slot) _ _ tt (λ e. cond_some (is_written_out e.value) _ _ (tt, λ a. tt) tt)) (λ w. tt)

pub tick_some : (slot : ℕ) (s : DeviceState) → AllReturnSome (tick_slot slot s)
tick_some slot s =
    option_some (entry_under s.table slot) _ _ tt (λ e. cond_some (is_timed_out s.now e.value) _ _ (closing_some e cut_off s) tt)

-- Handshakes.
pub accept_some : (t : Turning) → AllReturnSome (accept_one t)
accept_some t = cond_some (nat_lt (length t.state.handshakes) HANDSHAKES) _ _ (tt, λ answer. tt) tt

pub late_some : (stream : ℕ) (t : Turning) → AllReturnSome (tick_handshake stream t)
late_some stream t =
    option_some (handshake_on stream t.state) _ _ tt
    (λ h. cond_some (is_late t.state.device.now (Some h.accepted_at)) _ _ (tt, λ a. tt) tt)

opens_some : (stream : ℕ) (flow : Flow) (t : Turning) → AllReturnSome (opening stream flow t)
opens_some stream flow t =
    bind_some (open_of flow stream t.state.device) _
    (option_some (refusal t.state.device.table flow) _ _ (tt, λ a. tt) (λ fault. tt))
    (λ r. tt)

decided_some : (stream : ℕ) (a : Step) (t : Turning) → AllReturnSome (line_decided stream a t)
decided_some stream line.More t = tt
decided_some stream line.Bad t = (tt, λ a. tt)
decided_some stream (line.Port port) t =
    bind_some _ _ (option_some (next_flow port t.state.next_port t.state.device) _ _ (tt, λ a. tt) (λ flow. opens_some stream flow t)) (λ u. tt)

byte_some : (h : Handshake) (a : StreamRead) (bytes : List ℕ) (t : Turning) → AllReturnSome (byte_read h a bytes t)
byte_some h (read.Got n) bytes t = decided_some h.stream (connect_step (h.line ++ bytes)) _
byte_some h read.Again bytes t = tt
byte_some h read.End bytes t = (tt, λ a. tt)
byte_some h read.Failed bytes t = (tt, λ a. tt)

pub line_some : (stream : ℕ) (t : Turning) → AllReturnSome (read_byte stream t)
line_some stream t =
    option_some (handshake_on stream t.state) _ _ tt (λ h. (tt, λ answer. byte_some h answer.0 answer.1 t))

-- A transport reset.
slot_some : (slot : ℕ) (s : DeviceState) → AllReturnSome (close_slot slot s)
slot_some slot s = option_some (entry_under s.table slot) _ _ tt (λ e. closing_some e stream_closed s)

reset_with_some : (d : DeviceState) (r : Result (Unit {0}) Failure) (s : ProxyState) → AllReturnSome (reset_with (d, r) s)
reset_with_some d (Err f) s = tt
reset_with_some d (Ok x) s =
    bind_some (for_each close_handshake (streams_of s) s) _ (each_some close_handshake (λ stream t. (tt, λ a. tt)) (streams_of s) s)
    (λ t. tt)

pub reset_some : (cid : ℕ) (s : ProxyState) → AllReturnSome (proxy_reset_of cid s)
reset_some cid s =
    bind_some (reset_of cid s.device) _
    (option_some s.device.failed _ _
    (bind_some (for_each close_slot (slots s.device.table) s.device) _ (each_some close_slot slot_some (slots s.device.table) s.device)
    (λ t. (tt, λ a. tt))) (λ f. tt))
    (λ r. reset_with_some r.0 r.1 s)

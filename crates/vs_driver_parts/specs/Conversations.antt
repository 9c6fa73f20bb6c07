-- The driver's calls on its ring, in their order, and what each call of the driver answers (Virtio 1.2, section 5.10.6).
use Rattle.std.specs.Prelude.{ℕ, ◌+◌, ◌-◌, ◌==◌, min, nat_lt, nat_le, Bool, true, false, if◌then◌else◌, List, [], ◌∷◌, ◌++◌, length, take, Option, Some, None, is_some, Result, Ok}
use Rattle.std.specs.Prelude.{Err}
use Rattle.vs_contents.specs.CallTree.{CallTree, Done, Ask, bind, for_each, while_up_to}
use Rattle.vs_header.specs.{Packet.header_bytes, declared.{Header.Header, Kind.TheVariants.Stream}}
use Rattle.vs_conn.specs.{Headers.{owed_header, payload_header, reset_header}, declared.end.{Owed.Owed, Stop.Stop}, End.{ConnectionEnd, may_send_of, owes_of, with_payload_sent}}
use Rattle.vs_conn.specs.End.{wanting_credit, asked}
use Rattle.vs_flow.specs.Table.{entry_under, slots}
use Rattle.vs_limits.specs.declared.TheConstants.{BUF_ALLOC, DRIVER_CONNECTIONS, DRIVER_REPLIES_FULL, HOST_CID, OWED_MAX, STAGED_MAX}
use Rattle.vs_page.specs.declared.page.TheConstants.{PAYLOAD_MAX}
use Rattle.vs_replies.specs.declared.Reply.{Reply}
use Rattle.vs_ring_port.specs.{declared.queue.Queue.{Queue, TheVariants.{Rx, Tx, Event}}, DriverCalls.{DriverCall, DriverAnswer, Stage, Publish, Reap, LoadCid}}
use Rattle.vs_driver_parts.specs.{declared.{answers.{ConnectError.ConnectError, Polled.Polled, Sent.Sent}, tally.Tally.Tally}, Receiving.{on_page, is_reset_event, after_reset}}
use Rattle.vs_driver_parts.specs.{State.{DriverState, DriverEntry, entry_known_as, gone_known_as}, Connections.{with_end, with_connection, route_to_host, next_flow}}
use Rattle.vs_driver_parts.specs.Connections.{connect_refusal, connected, after_leaving, is_bad_cid, paid_connection}
use Rattle.vs_conn.specs.declared.end.Owed.TheVariants as owed
use Rattle.vs_conn.specs.declared.end.Stop.TheVariants as stop
use Rattle.vs_driver_parts.specs.declared.answers.ConnectError.TheVariants as refused
use Rattle.vs_driver_parts.specs.declared.answers.Sent.TheVariants as sent

abbrev pub DriverTree : Type 0 → Type 0
DriverTree A = CallTree DriverCall DriverAnswer A

-- A page is staged; 16 of them are published together.
abbrev pub after_stage : Queue → DriverState → DriverTree DriverState
after_stage queue s =
    if s.staged + 1 == STAGED_MAX then Ask (Publish queue) (λ _. Done (record s { staged = 0 }))
    else Done (record s { staged = s.staged + 1 })

abbrev pub stage_of : Queue → List ℕ → DriverState → DriverTree DriverState
stage_of queue page s = Ask (Stage queue page) (λ _. after_stage queue s)

-- The pages staged on a queue are published.
abbrev pub publish_of : Queue → DriverState → DriverTree DriverState
publish_of queue s = Ask (Publish queue) (λ _. Done (record s { staged = 0 }))

-- A transmit page with a packet is staged, or posted: it is in flight.
abbrev pub one_more_in_flight : DriverState → DriverState
one_more_in_flight s = record s { in_flight = s.in_flight + 1 }

abbrev pub stage_packet : List ℕ → DriverState → DriverTree DriverState
stage_packet bytes s = stage_of Tx bytes (one_more_in_flight s)

abbrev pub post_packet : List ℕ → DriverState → DriverTree DriverState
post_packet bytes s = Ask (Stage Tx bytes) (λ _. Ask (Publish Tx) (λ _. Done (one_more_in_flight s)))

abbrev pub has_page : DriverState → Bool
has_page s = nat_lt s.in_flight s.size

-- Transmit pages that the device returned are reaped, as many as there are.
abbrev pub reaped : DriverState → Option (List ℕ) → DriverState × Bool
reaped s None = (s, false)
reaped s (Some page) = (record s { in_flight = s.in_flight - 1 }, true)

abbrev pub reap_one : DriverState → DriverTree (DriverState × Bool)
reap_one s = if s.in_flight == 0 then Done (s, false) else Ask (Reap Tx) (λ page. Done (reaped s page))

abbrev pub reap_all : DriverState → DriverTree DriverState
reap_all s = while_up_to s.in_flight reap_one s

-- Making a driver: all receive and event pages are posted.
abbrev pub new_state : ℕ → ℕ → ℕ → ℕ → DriverState
new_state size port id cid = record {
  cid = cid;
  size = size;
  next_port = port;
  next_id = id;
  last_port = 0;
  last_id = 0;
  table = record { room = DRIVER_CONNECTIONS; entries = []; given = 0 };
  gone = [];
  clean = [];
  listeners = [];
  replies = [];
  broken = 0;
  in_flight = 0;
  staged = 0;
}

abbrev pub post_one : Queue → DriverState → DriverTree (DriverState × Bool)
post_one queue s = bind (stage_of queue [] s) (λ t. Done (t, true))

abbrev pub posts : Queue → DriverState → DriverTree DriverState
posts queue s = while_up_to s.size (post_one queue) s

abbrev pub post_all : Queue → DriverState → DriverTree DriverState
post_all queue s = bind (posts queue s) (publish_of queue)

abbrev pub load_cid : DriverState → DriverTree DriverState
load_cid s = Ask LoadCid (λ cid. Done (record s { cid = cid }))

abbrev pub post_events : DriverState → DriverTree DriverState
post_events s = bind (post_all Event s) load_cid

abbrev pub new_of : ℕ → ℕ → ℕ → DriverTree DriverState
new_of size port id = bind (post_all Rx (new_state size port id 0)) post_events

-- connect.
abbrev pub request_bytes : ℕ → ℕ → DriverState → List ℕ
request_bytes peer to s = header_bytes (owed_header (asked Stream BUF_ALLOC) (route_to_host s.cid (next_flow peer to s)) owed.Request)

abbrev pub connect_with_page : ℕ → ℕ → DriverState → DriverTree (DriverState × Result ℕ ConnectError)
connect_with_page peer to s =
    if has_page s then bind (post_packet (request_bytes peer to s) s) (λ t. Done (connected peer to t, Ok t.next_id))
    else Done (s, Err (refused.NoDescriptor s.in_flight))

abbrev pub connect_to : ℕ → ℕ → DriverState → DriverTree (DriverState × Result ℕ ConnectError)
connect_to peer to s = elim (connect_refusal peer to s) [
  | Some refusal ↦ Done (s, Err refusal)
  | None ↦ bind (reap_all s) (connect_with_page peer to)
]

abbrev pub connect_of : ℕ → DriverState → DriverTree (DriverState × Result ℕ ConnectError)
connect_of host s = connect_to HOST_CID host s

-- connect_cid.
abbrev pub connect_cid_of : ℕ → ℕ → DriverState → DriverTree (DriverState × Result ℕ ConnectError)
connect_cid_of cid port s = if is_bad_cid cid s then Done (s, Err (refused.BadCid cid)) else connect_to cid port s

-- send: at most as many bytes as the credit allows and as one packet carries.
abbrev pub payload_of : ℕ → List ℕ → List ℕ
payload_of credit bytes = take (min credit PAYLOAD_MAX) bytes

abbrev pub payload_bytes : DriverEntry → List ℕ → DriverState → List ℕ
payload_bytes e payload s = header_bytes (payload_header e.value.end (route_to_host s.cid e.flow) (length payload)) ++ payload

abbrev pub send_with_page : DriverEntry → List ℕ → DriverState → DriverTree (DriverState × Sent)
send_with_page e payload s =
    if has_page s then bind (post_packet (payload_bytes e payload s) s)
    (λ t. Done (with_end (with_payload_sent e.value.end (length payload)) e t, sent.Took (length payload)))
    else Done (s, sent.NoDescriptor s.in_flight)

abbrev pub no_credit : ConnectionEnd → Sent
no_credit end = sent.NoCredit end.credit.tx_cnt end.credit.peer_alloc end.credit.peer_fwd

abbrev pub send_with_credit : DriverEntry → ℕ → List ℕ → DriverState → DriverTree (DriverState × Sent)
send_with_credit e credit bytes s =
    if length bytes == 0 then Done (s, sent.Took 0)
    else if credit == 0 then Done (with_end (wanting_credit e.value.end) e s, no_credit e.value.end)
    else bind (reap_all s) (send_with_page e (payload_of credit bytes))

abbrev pub send_stopped : Stop → Sent
send_stopped stop.NotOpen = sent.NotOpen
send_stopped stop.Reset = sent.Reset
send_stopped stop.ShutDown = sent.ShutDown

abbrev pub send_on : DriverEntry → List ℕ → DriverState → DriverTree (DriverState × Sent)
send_on e bytes s = elim (may_send_of e.value.end) [
  | Err why ↦ Done (s, send_stopped why)
  | Ok credit ↦ send_with_credit e credit bytes s
]

abbrev pub not_sent : ℕ → DriverState → Sent
not_sent id s = if is_some (gone_known_as id s) then sent.Reset else sent.Unknown

abbrev pub send_of : ℕ → List ℕ → DriverState → DriverTree (DriverState × Sent)
send_of id bytes s = elim (entry_known_as id s) [ None ↦ Done (s, not_sent id s) | Some e ↦ send_on e bytes s ]

-- poll, first part: events, while 64 or fewer replies are owed. Each page is staged again. At a transport reset the CID is loaded.
pub record Round : Type 0 where
  pub state : DriverState
  pub count : ℕ
  pub reset : Bool

abbrev pub start : DriverState → Round
start s = record { state = s; count = 0; reset = false }

abbrev pub round_of : DriverState → Tally → Round
round_of s tally = record { state = s; count = tally.count; reset = tally.reset }

abbrev pub event_taken : List ℕ → Round → DriverTree Round
event_taken page r =
    if is_reset_event page then Ask LoadCid (λ cid. Done (record r { state = after_reset cid r.state; count = r.count + 1; reset = true }))
    else Done (record r { count = r.count + 1 })

abbrev pub goes_on_with : Round → DriverState → DriverTree (Round × Bool)
goes_on_with r s = Done (record r { state = s }, true)

abbrev pub staged_again : Queue → Round → DriverTree (Round × Bool)
staged_again queue r = bind (stage_of queue [] r.state) (goes_on_with r)

abbrev pub event_reaped : Round → Option (List ℕ) → DriverTree (Round × Bool)
event_reaped r None = Done (r, false)
event_reaped r (Some bytes) = bind (event_taken bytes r) (staged_again Event)

abbrev pub take_event : Round → DriverTree (Round × Bool)
take_event r =
    if nat_lt DRIVER_REPLIES_FULL (length r.state.replies) then Done (r, false)
    else Ask (Reap Event) (event_reaped r)

-- Second part: packets, while fewer than 64 replies are owed.
abbrev pub packet_reaped : Round → Option (List ℕ) → DriverTree (Round × Bool)
packet_reaped r None = Done (r, false)
packet_reaped r (Some bytes) = staged_again Rx (record r { state = on_page bytes r.state; count = r.count + 1 })

abbrev pub take_packet : Round → DriverTree (Round × Bool)
take_packet r =
    if nat_le DRIVER_REPLIES_FULL (length r.state.replies) then Done (r, false)
    else Ask (Reap Rx) (packet_reaped r)

-- Each part ends by publishing what it staged.
abbrev pub with_state : Round → DriverState → DriverTree Round
with_state r s = Done (record r { state = s })

abbrev pub published : Queue → Round → DriverTree Round
published queue r = bind (publish_of queue r.state) (with_state r)

abbrev pub all_taken : (Round → DriverTree (Round × Bool)) → DriverState → DriverTree Round
all_taken take_one s = while_up_to s.size take_one (start s)

abbrev pub take_all : Queue → (Round → DriverTree (Round × Bool)) → DriverState → DriverTree Round
take_all queue take_one s = bind (all_taken take_one s) (published queue)

-- Fourth part: the oldest owed reply is put, while pages are free.
abbrev pub reply_header : ℕ → Reply → Header
reply_header cid reply = reset_header reply.kind (route_to_host cid reply.flow)

abbrev pub one_put : Round → DriverState → DriverTree (Round × Bool)
one_put r s = Done (record r { state = s; count = r.count + 1 }, true)

abbrev pub put_reply_of : List Reply → Round → DriverTree (Round × Bool)
put_reply_of [] r = Done (r, false)
put_reply_of (reply ∷ replies) r =
    if has_page r.state then bind (stage_packet (header_bytes (reply_header r.state.cid reply)) (record r.state { replies = replies })) (one_put r)
    else Done (r, false)

abbrev pub put_reply : Round → DriverTree (Round × Bool)
put_reply r = put_reply_of r.state.replies r

abbrev pub put_replies : DriverState → DriverTree Round
put_replies s = while_up_to (length s.replies) put_reply (start s)

-- Fifth part: what a connection owes is put, while it owes something and pages are free. RST takes it out of the table.
abbrev pub after_paying : Owed → DriverEntry → DriverState → DriverState
after_paying owed.Rst e s = after_leaving e s
after_paying what e s = with_connection e.slot (paid_connection what e.value) s

abbrev pub is_rst : Owed → Bool
is_rst owed.Rst = true
is_rst _ = false

abbrev pub owed_bytes : Owed → DriverEntry → DriverState → List ℕ
owed_bytes what e s = header_bytes (owed_header e.value.end (route_to_host s.cid e.flow) what)

abbrev pub put_owed_of : Owed → DriverEntry → Round → DriverTree (Round × Bool)
put_owed_of what e r =
    if has_page r.state then bind (stage_packet (owed_bytes what e r.state) (after_paying what e r.state)) (one_put r)
    else Done (r, false)

abbrev pub put_owed : ℕ → Round → DriverTree (Round × Bool)
put_owed slot r = elim (entry_under r.state.table slot) [
  | None ↦ Done (r, false)
  | Some e ↦ elim (owes_of e.value.end) [ None ↦ Done (r, false) | Some what ↦ put_owed_of what e r ]
]

abbrev pub pay_slot : ℕ → Round → DriverTree Round
pay_slot slot r = while_up_to OWED_MAX (put_owed slot) r

abbrev pub pay_all : Round → DriverTree Round
pay_all r = for_each pay_slot (slots r.state.table) r

-- Owed replies, and then what each connection owes, by rising slot.
abbrev pub pay_and_publish : Round → DriverTree Round
pay_and_publish r = bind (pay_all r) (published Tx)

abbrev pub publish_and_pay : Round → DriverTree Round
publish_and_pay r = bind (published Tx r) pay_and_publish

abbrev pub put_all : DriverState → DriverTree Round
put_all s = bind (put_replies s) publish_and_pay

-- The stages of a poll in their order.
abbrev pub polled : ℕ → Bool → Round → DriverTree (DriverState × Polled)
polled took reset put = Done (put.state, record { took = took; posted = put.count; reset = reset })

abbrev pub poll_puts : ℕ → Bool → DriverState → DriverTree (DriverState × Polled)
poll_puts took reset s = bind (put_all s) (polled took reset)

abbrev pub poll_reaps : Bool → Round → DriverTree (DriverState × Polled)
poll_reaps reset packets = bind (reap_all packets.state) (poll_puts packets.count reset)

abbrev pub poll_packets : Round → DriverTree (DriverState × Polled)
poll_packets events = bind (take_all Rx take_packet events.state) (poll_reaps events.reset)

abbrev pub poll_of : DriverState → DriverTree (DriverState × Polled)
poll_of s = bind (take_all Event take_event s) poll_packets

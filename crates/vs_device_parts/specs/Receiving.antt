-- Packets and events that the device puts to the guest.
use Rattle.std.specs.Prelude.{ℕ, ◌+◌, ◌-◌, ◌==◌, ◌&&◌, not, min, nat_lt, nat_le, Bool, true, false, if◌then◌else◌, List, [], ◌∷◌, ◌++◌, length, filter, Option, Some, None, Result}
use Rattle.std.specs.Prelude.{Ok, Err}
use Rattle.byteorder.specs.Endian.{little_bytes}
use Rattle.vs_contents.specs.CallTree.{Done, Ask, bind, for_each, while_up_to}
use Rattle.vs_header.specs.{Packet.header_bytes, declared.{Header.Header, TheConstants.HEADER_LEN}}
use Rattle.vs_credit.specs.Credit.{free_of}
use Rattle.vs_conn.specs.{Headers.{owed_header, payload_header, reset_header}, declared.end.{Owed.Owed, State.State}, End.{ConnectionEnd, owes_of, paid_of, with_payload_sent}}
use Rattle.vs_conn.specs.End.{wanting_credit}
use Rattle.vs_flow.specs.Table.{entry_under, slots}
use Rattle.vs_outside.specs.declared.host_net.StreamRead.{StreamRead}
use Rattle.vs_page.specs.declared.page.TheConstants.{PAYLOAD_MAX}
use Rattle.vs_replies.specs.declared.Reply.{Reply}
use Rattle.vs_ring_port.specs.{declared.{device_ring.{Chain.Chain, Next.Next}, failure.Failure.Failure, queue.Queue.TheVariants.{Rx, Event}}, Contents.{Take, Write, Return}}
use Rattle.vs_device_parts.specs.{declared.answers.Filled.Filled, Calls.{DeviceTree, Ring, ReadStream}, State.{DeviceState, DeviceEntry}, Streams.{closing, leaving}}
use Rattle.vs_device_parts.specs.{Transmitting.failing, Connections.{with_connection, with_fault, route_to_guest, cut_off, after_shut}}
use Rattle.vs_limits.specs.declared.TheConstants.{OWED_MAX}
use Rattle.vs_conn.specs.declared.end.Owed.TheVariants as owed
use Rattle.vs_conn.specs.declared.end.State.TheVariants as state
use Rattle.vs_outside.specs.declared.host_net.StreamRead.TheVariants as read
use Rattle.vs_ring_port.specs.declared.device_ring.Next.TheVariants as next

-- The owed event: the id 0 of a transport reset, where an event chain is there.
abbrev pub event_on : Next → DeviceState → DeviceTree (DeviceState × Result Bool Failure)
event_on (next.Chain chain) s =
    Ask (Ring (Write chain 0 (little_bytes 4 0))) (λ _. Ask (Ring (Return chain 4)) (λ _. Done (record s { event_owed = false }, Ok true)))
event_on next.None s = Done (s, Ok false)
event_on (next.Failed f) s = Done (failing f s, Err f)

abbrev pub pay_event_of : DeviceState → DeviceTree (DeviceState × Result Bool Failure)
pay_event_of s = elim s.failed [
  | Some f ↦ Done (s, Err f)
  | None ↦ if s.event_owed then Ask (Ring (Take Event)) (λ answer. event_on answer s) else Done (s, Ok false)
]

-- A stage of putting packets: packets put and bytes read so far, and whether the stage is over, for want of a chain or by a failure.
pub record Filling : Type 0 where
  pub state : DeviceState
  pub put : ℕ
  pub read : ℕ
  pub over : Bool

-- An rx chain is held where one is needed: the one that is held already, or the next one. Where there is none, the stage is over.
abbrev pub holding : Next → Filling → Filling
holding (next.Chain chain) r = record r { state = record r.state { chain = Some chain } }
holding next.None r = record r { over = true }
holding (next.Failed f) r = record r { state = failing f r.state; over = true }

abbrev pub hold : Filling → DeviceTree Filling
hold r = elim r.state.chain [
  | Some chain ↦ Done r
  | None ↦ Ask (Ring (Take Rx)) (λ answer. Done (holding answer r))
]

-- A packet is put into the chain that is held, header first.
abbrev pub written : Chain → Header → List ℕ → DeviceTree (Unit {0})
written chain h [] = Ask (Ring (Write chain 0 (header_bytes h))) (λ _. Ask (Ring (Return chain HEADER_LEN)) (λ _. Done tt))
written chain h payload =
    Ask (Ring (Write chain 0 (header_bytes h))) (λ _. Ask (Ring (Write chain HEADER_LEN payload)) (λ _.
    Ask (Ring (Return chain (HEADER_LEN + length payload))) (λ _. Done tt)))

abbrev pub put_on : Chain → Header → List ℕ → Filling → DeviceTree Filling
put_on chain h payload r =
    bind (written chain h payload) (λ _. Done (record r { state = record r.state { chain = None }; put = r.put + 1 }))

-- A packet is put where a chain is or becomes held; f says what the state is then.
abbrev pub put_packet : Header → (DeviceState → DeviceTree DeviceState) → Filling → DeviceTree Filling
put_packet h f r =
    bind (hold r) (λ q. elim q.state.chain [
      | None ↦ Done q
      | Some chain ↦ bind (put_on chain h [] q) (λ p. bind (f p.state) (λ s. Done (record p { state = s })))
    ])

-- The oldest owed reply.
abbrev pub reply_header : Reply → DeviceState → Header
reply_header reply s = reset_header reply.kind (route_to_guest s.cid reply.flow)

abbrev pub put_reply_of : List Reply → Filling → DeviceTree (Filling × Bool)
put_reply_of [] r = Done (r, false)
put_reply_of (reply ∷ replies) r =
    bind (put_packet (reply_header reply r.state) (λ s. Done (record s { replies = replies })) r) (λ q. Done (q, not q.over))

abbrev pub put_reply : Filling → DeviceTree (Filling × Bool)
put_reply r = put_reply_of r.state.replies r

-- A connection reads its stream where it may send: where it has credit, and only with a chain held, as many bytes as credit, one packet and
-- the chain take. Without credit it wants some.
abbrev pub may_read : ConnectionEnd → State → Bool
may_read end state.Live = not end.peer.receive && not end.own.send
may_read end _ = false

abbrev pub read_room : ℕ → Chain → ℕ
read_room credit chain = min credit (min PAYLOAD_MAX (chain.writable - HEADER_LEN))

abbrev pub put_payload : Chain → DeviceEntry → List ℕ → Filling → DeviceTree Filling
put_payload chain e payload r =
    bind (put_on chain (payload_header e.value.end (route_to_guest r.state.cid e.flow) (length payload)) payload r) (λ p.
    Done (record p {
      state = record (with_connection e.slot (record e.value { end = with_payload_sent e.value.end (length payload) }) p.state) { last_put = Some e.slot };
      read = p.read + length payload;
    }))

abbrev pub read_answered : Chain → DeviceEntry → StreamRead → List ℕ → Filling → DeviceTree Filling
read_answered chain e (read.Got n) payload r = put_payload chain e payload r
read_answered chain e read.Again payload r = Done r
read_answered chain e read.End payload r = Done (record r { state = with_connection e.slot (after_shut 2 r.state.now e.value) r.state })
read_answered chain e read.Failed payload r = bind (closing e cut_off (with_fault r.state)) (λ s. Done (record r { state = s }))

abbrev pub read_with_chain : DeviceEntry → Filling → DeviceTree Filling
read_with_chain e r = elim r.state.chain [
  | None ↦ Done r
  | Some chain ↦
      Ask (ReadStream e.value.stream (read_room (free_of e.value.end.credit) chain)) (λ answer. read_answered chain e answer.0 answer.1 r)
]

abbrev pub read_stream : DeviceEntry → Filling → DeviceTree Filling
read_stream e r =
    if may_read e.value.end e.value.end.state then
    (if free_of e.value.end.credit == 0 then
    Done (record r { state = with_connection e.slot (record e.value { end = wanting_credit e.value.end }) r.state })
    else bind (hold r) (read_with_chain e))
    else Done r

-- A connection puts what it owes, while it owes something and chains are there. RST takes it out of the table.
abbrev pub after_paying : Owed → DeviceEntry → DeviceState → DeviceTree DeviceState
after_paying owed.Rst e s = leaving false e (record s { last_put = Some e.slot })
after_paying owed.Request e s =
    Done (record (with_connection e.slot (record e.value { end = paid_of e.value.end owed.Request; asked_at = Some s.now }) s) { last_put = Some e.slot })
after_paying what e s =
    Done (record (with_connection e.slot (record e.value { end = paid_of e.value.end what }) s) { last_put = Some e.slot })

abbrev pub put_owed : ℕ → Filling → DeviceTree (Filling × Bool)
put_owed slot r = elim (entry_under r.state.table slot) [
  | None ↦ Done (r, false)
  | Some e ↦ elim (owes_of e.value.end) [
    | None ↦ Done (r, false)
    | Some what ↦
        bind (put_packet (owed_header e.value.end (route_to_guest r.state.cid e.flow) what) (after_paying what e) r) (λ q. Done (q, not q.over))
  ]
]

abbrev pub serve_slot : ℕ → Filling → DeviceTree Filling
serve_slot slot r =
    if r.over then Done r
    else bind (elim (entry_under r.state.table slot) [ None ↦ Done r | Some e ↦ read_stream e r ]) (λ q.
    if q.over then Done q else while_up_to OWED_MAX (put_owed slot) q)

-- The round starts after the slot that last put a packet.
abbrev pub round_from : Option ℕ → List ℕ → List ℕ
round_from None slots = slots
round_from (Some last) slots = filter (λ slot. nat_lt last slot) slots ++ filter (λ slot. nat_le slot last) slots

abbrev pub filled_of : Filling → DeviceState × Result Filled Failure
filled_of r = (r.state, elim r.state.failed [ Some f ↦ Err f | None ↦ Ok (record { put = r.put; read = r.read }) ])

abbrev pub fill_rx_of : DeviceState → DeviceTree (DeviceState × Result Filled Failure)
fill_rx_of s = elim s.failed [
  | Some f ↦ Done (s, Err f)
  | None ↦
      bind (while_up_to (length s.replies) put_reply (record { state = s; put = 0; read = 0; over = false })) (λ r.
      bind (if r.over then Done r else for_each serve_slot (round_from r.state.last_put (slots r.state.table)) r) (λ q. Done (filled_of q)))
]

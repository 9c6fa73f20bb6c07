-- What the driver's calls do to its connections, apart from the ring.
use Rattle.std.specs.Prelude.{◌≡◌, ℕ, ◌+◌, ◌==◌, ◌&&◌, ◌||◌, not, min, nat_lt, nat_le, Bool, true, false, if◌then◌else◌, List, [], ◌∷◌, ◌++◌, length, map, filter, take, drop}
use Rattle.std.specs.{Prelude.{Option, Some, All, None, is_some}, Option.{option_map, option_map_or}}
use Rattle.vs_flow.specs.{Flow.is_assigned, Table.{Table, with_entry, with_value, without}, declared.flow.Flow.Flow, CleanPairs.{goes_to, kept_if, oldest}}
use Rattle.vs_header.specs.declared.{Header.Header, Kind.TheVariants.Stream}
use Rattle.vs_limits.specs.declared.TheConstants.{BUF_ALLOC, BUF_ALLOC_MAX, LAST_PORT, LAST_ID, DRIVER_CONNECTIONS, GUEST_CID_MAX, HOST_CID}
use Rattle.vs_conn.specs.{declared.{end.{Owed.Owed, State.State}, route.Route.Route}, End.{ConnectionEnd, asked, answering, grown, paid_of, with_payload_forwarded, with_shut}}
use Rattle.vs_conn.specs.End.{aborted, owes_of}
use Rattle.vs_driver_parts.specs.declared.answers.{ConnectionState.ConnectionState, ConnectError.ConnectError, Closed.Closed, Grown.Grown, Received.Received, Shut.Shut}
use Rattle.vs_driver_parts.specs.{State.{DriverConnection, GoneConnection, Listener, DriverState, DriverEntry, slots_held, entry_known_as, gone_known_as}, Listening.with_waiting}
use Rattle.vs_driver_parts.specs.Listening.{without_id, listener_on}
use Rattle.laws_tables.specs.{Ends.without as flows_without, Steps.port_after}
use Rattle.vs_conn.specs.declared.end.Owed.TheVariants as owed
use Rattle.vs_conn.specs.declared.end.State.TheVariants as state
use Rattle.vs_driver_parts.specs.declared.answers.ConnectionState.TheVariants as seen
use Rattle.vs_driver_parts.specs.declared.answers.ConnectError.TheVariants as refused
use Rattle.vs_driver_parts.specs.declared.answers.Closed.TheVariants as closed
use Rattle.vs_driver_parts.specs.declared.answers.Received.TheVariants as got
use Rattle.vs_driver_parts.specs.declared.answers.Shut.TheVariants as shut
use Rattle.vs_driver_parts.specs.declared.answers.Grown.TheVariants as rise

-- The driver with another connection in the place of an entry's.
abbrev pub with_connection : ℕ → DriverConnection → DriverState → DriverState
with_connection slot c s = record s { table = with_value s.table slot c }

abbrev pub with_end : ConnectionEnd → DriverEntry → DriverState → DriverState
with_end end e s = with_connection e.slot (record e.value { end = end }) s

-- No connection owes a packet.
abbrev pub OweNothing : Table DriverConnection → Type 0
OweNothing t = All (λ e. owes_of e.value.end ≡ None) t.entries

-- The route of the guest's packets on a flow.
abbrev pub route_to_host : ℕ → Flow → Route
route_to_host cid f = record { src_cid = cid; dst_cid = f.peer; src_port = f.guest; dst_port = f.host }

-- A connection opens under the next id.
abbrev pub with_opened : Flow → ConnectionEnd → Bool → DriverState → DriverState
with_opened flow end unanswered s = record s {
  next_id = s.next_id + 1;
  last_id = s.next_id;
  table = with_entry s.table flow (record { id = s.next_id; end = end; unread = []; unanswered = unanswered; closed = false });
}

-- The flow of the next connection to a port of a peer, where the guest port comes next and these flows may be used again: a fresh one, and
-- once the last port was given the oldest of these to that port.
abbrev pub fresh_flow : ℕ → ℕ → ℕ → Flow
fresh_flow peer to port = record { guest = port; host = to; peer = peer }

abbrev pub free_flow : ℕ → ℕ → ℕ → List Flow → Option Flow
free_flow peer to port clean = if nat_le port LAST_PORT then Some (fresh_flow peer to port) else oldest (goes_to peer to) clean

-- connect: the flow that it opens, and why it is refused before a page is looked for. A port of the host's that the device assigns can't be
-- asked for.
abbrev pub next_flow : ℕ → ℕ → DriverState → Flow
next_flow peer to s = option_map_or (λ f. f) (free_flow peer to s.next_port s.clean) (fresh_flow peer to s.next_port)

abbrev pub is_full : DriverState → Bool
is_full s = nat_le DRIVER_CONNECTIONS (slots_held s)

abbrev pub is_spent : ℕ → ℕ → DriverState → Bool
is_spent peer to s = not (is_some (free_flow peer to s.next_port s.clean)) || nat_lt LAST_ID s.next_id

abbrev pub connect_refusal : ℕ → ℕ → DriverState → Option ConnectError
connect_refusal peer to s =
    if (peer == HOST_CID) && is_assigned to then Some (refused.BadPort to)
    else if is_full s then Some (refused.Full DRIVER_CONNECTIONS)
    else if is_spent peer to s then Some (refused.PortsSpent s.last_port s.last_id)
    else None

-- connect_cid: a CID that no peer has: the guest's own, 0, 1, or one above the highest of a guest.
abbrev pub is_bad_cid : ℕ → DriverState → Bool
is_bad_cid cid s = (cid == s.cid) || (nat_lt cid HOST_CID || nat_lt GUEST_CID_MAX cid)

-- The driver after the REQUEST of a connect was put.
abbrev pub connected : ℕ → ℕ → DriverState → DriverState
connected peer to s =
    let f = next_flow peer to s in
    record (with_opened f (paid_of (asked Stream BUF_ALLOC) owed.Request) false s) {
      next_port = port_after s.next_port f.guest;
      last_port = f.guest;
      clean = flows_without f s.clean;
    }

-- A REQUEST of the host's opens a connection, which waits on its port.
abbrev pub with_request : Flow → Header → DriverState → DriverState
with_request flow h s =
    record (with_opened flow (answering Stream BUF_ALLOC h) true s) { listeners = with_waiting flow.guest (λ waiting. waiting ++ s.next_id ∷ []) s.listeners }

-- A connection waits on its port no more.
abbrev pub waits_no_more : DriverEntry → DriverState → DriverState
waits_no_more e s = record s { listeners = with_waiting e.flow.guest (without_id e.value.id) s.listeners }

-- A connection leaves the table. Its slot stays held, and its unread bytes stay, until its id is closed; one that was closed, or whose
-- RESPONSE was never put, leaves its slot at once.
abbrev pub gone_as : DriverEntry → GoneConnection
gone_as e = record { id = e.value.id; flow = e.flow; end = e.value.end; unread = e.value.unread }

abbrev pub is_let_go : DriverConnection → Bool
is_let_go c = c.closed || c.unanswered

abbrev pub leaves_list : DriverEntry → DriverState → DriverState
leaves_list e s = if e.value.unanswered then waits_no_more e s else s

abbrev pub after_leaving : DriverEntry → DriverState → DriverState
after_leaving e s = record (leaves_list e s) {
  table = without s.table e.slot;
  gone = if is_let_go e.value then s.gone else s.gone ++ gone_as e ∷ [];
}

-- Its flow may be used again, or not.
abbrev pub keeping : Bool → Flow → DriverState → DriverState
keeping keep f s = record s { clean = kept_if keep f s.clean }

-- state and flow.
abbrev pub state_shown : State → ConnectionState
state_shown state.Asked = seen.Asked
state_shown state.Answering = seen.Answering
state_shown state.Live = seen.Live
state_shown state.Ended = seen.Ended

abbrev pub state_of : ℕ → DriverState → ConnectionState
state_of id s = elim (entry_known_as id s) [
  | None ↦ if is_some (gone_known_as id s) then seen.Gone else seen.Unknown
  | Some e ↦ state_shown e.value.end.state
]

abbrev pub flow_of : ℕ → DriverState → Option Flow
flow_of id s = elim (entry_known_as id s) [ None ↦ option_map (λ g. g.flow) (gone_known_as id s) | Some e ↦ Some e.flow ]

-- recv, into a buffer of n bytes. What is answered where nothing is unread.
abbrev pub is_at_end : ConnectionEnd → Bool
is_at_end end = end.peer.send || end.own.receive

abbrev pub nothing_read : State → Received
nothing_read state.Asked = got.NotOpen
nothing_read state.Answering = got.NotOpen
nothing_read state.Live = got.Empty
nothing_read state.Ended = got.Reset

abbrev pub read_of : ℕ → List ℕ → Received → Received
read_of n [] none = none
read_of n unread none = got.Got (min n (length unread))

abbrev pub entry_answer : ℕ → DriverEntry → Received
entry_answer n e = read_of n e.value.unread (if is_at_end e.value.end then got.End else nothing_read e.value.end.state)

abbrev pub gone_answer : ℕ → GoneConnection → Received
gone_answer n g = read_of n g.unread (if is_at_end g.end then got.End else got.Reset)

abbrev pub recv_of : ℕ → ℕ → DriverState → Received
recv_of id n s = elim (entry_known_as id s) [
  | Some e ↦ entry_answer n e
  | None ↦ elim (gone_known_as id s) [ None ↦ got.Unknown | Some g ↦ gone_answer n g ]
]

abbrev pub got_count : Received → ℕ
got_count (got.Got n) = n
got_count _ = 0

-- The bytes that it gives: of the connection's unread ones the first.
abbrev pub unread_of_id : ℕ → DriverState → List ℕ
unread_of_id id s = elim (entry_known_as id s) [
  | Some e ↦ e.value.unread
  | None ↦ option_map_or (λ g. g.unread) (gone_known_as id s) []
]

-- A buffer into which as many of the unread bytes as it holds were read. The rest of it stays.
abbrev pub bytes_read : List ℕ → List ℕ → List ℕ
bytes_read unread out = let n = min (length out) (length unread) in take n unread ++ drop n out

-- The connection after n bytes at most were read: they count as forwarded.
abbrev pub after_read : ℕ → DriverConnection → DriverConnection
after_read n c = record c { unread = drop n c.unread; end = with_payload_forwarded c.end (min n (length c.unread)) }

abbrev pub gone_after_read : ℕ → ℕ → GoneConnection → GoneConnection
gone_after_read id n g = if g.id == id then record g { unread = drop n g.unread } else g

abbrev pub all_gone_after_read : ℕ → ℕ → List GoneConnection → List GoneConnection
all_gone_after_read id n [] = []
all_gone_after_read id n (g ∷ gs) = gone_after_read id n g ∷ all_gone_after_read id n gs

abbrev pub entry_read : ℕ → DriverEntry → DriverState → DriverState
entry_read n e s = if length e.value.unread == 0 then s else with_connection e.slot (after_read n e.value) s

abbrev pub after_recv : ℕ → ℕ → DriverState → DriverState
after_recv id n s = elim (entry_known_as id s) [
  | Some e ↦ entry_read n e s
  | None ↦ record s { gone = all_gone_after_read id n s.gone }
]

-- The connection after it put what it owed. Its RESPONSE answers it.
abbrev pub paid_connection : Owed → DriverConnection → DriverConnection
paid_connection owed.Response c = record c { end = paid_of c.end owed.Response; unanswered = false }
paid_connection what c = record c { end = paid_of c.end what }

-- shutdown. What is not to be received any more is dropped.
abbrev pub kept_unread : ConnectionEnd → List ℕ → List ℕ
kept_unread end unread = if end.own.receive then [] else unread

abbrev pub after_shut : ℕ → DriverConnection → DriverConnection
after_shut bits c = let end = with_shut c.end bits in record c { end = end; unread = kept_unread end c.unread }

abbrev pub shut_answer : State → Shut
shut_answer state.Asked = shut.NotOpen
shut_answer state.Answering = shut.NotOpen
shut_answer state.Live = shut.Done
shut_answer state.Ended = shut.Reset

abbrev pub shutdown_of : ℕ → DriverState → Shut
shutdown_of id s = elim (entry_known_as id s) [
  | Some e ↦ shut_answer e.value.end.state
  | None ↦ if is_some (gone_known_as id s) then shut.Reset else shut.Unknown
]

abbrev pub shut_in : State → ℕ → DriverEntry → DriverState → DriverState
shut_in state.Live bits e s = with_connection e.slot (after_shut bits e.value) s
shut_in _ bits e s = s

abbrev pub after_shutdown : ℕ → ℕ → DriverState → DriverState
after_shutdown id bits s = elim (entry_known_as id s) [
  | Some e ↦ shut_in e.value.end.state bits e s
  | None ↦ s
]

-- grow: what is answered by an end that is open, where the buffer space is to be `alloc` bytes, and by one in any state.
abbrev pub live_grow_answer : ℕ → ConnectionEnd → Grown
live_grow_answer alloc end =
    if nat_lt BUF_ALLOC_MAX alloc then rise.TooBig BUF_ALLOC_MAX
    else if nat_lt alloc end.credit.alloc then rise.Shrinks end.credit.alloc
    else rise.Done

abbrev pub grow_answer : State → ℕ → ConnectionEnd → Grown
grow_answer state.Asked alloc end = rise.NotOpen
grow_answer state.Answering alloc end = rise.NotOpen
grow_answer state.Live alloc end = live_grow_answer alloc end
grow_answer state.Ended alloc end = rise.Reset

abbrev pub entry_grow_answer : ℕ → DriverEntry → Grown
entry_grow_answer alloc e = grow_answer e.value.end.state alloc e.value.end

abbrev pub grow_of : ℕ → ℕ → DriverState → Grown
grow_of id alloc s = elim (entry_known_as id s) [
  | Some e ↦ entry_grow_answer alloc e
  | None ↦ if is_some (gone_known_as id s) then rise.Reset else rise.Unknown
]

-- What it leaves, by its answer.
abbrev pub grown_by : Grown → ℕ → DriverEntry → DriverState → DriverState
grown_by rise.Done alloc e s = with_end (grown e.value.end alloc) e s
grown_by _ alloc e s = s

abbrev pub after_grow : ℕ → ℕ → DriverState → DriverState
after_grow id alloc s = elim (entry_known_as id s) [ Some e ↦ grown_by (entry_grow_answer alloc e) alloc e s | None ↦ s ]

abbrev pub without_gone : ℕ → List GoneConnection → List GoneConnection
without_gone id gone = filter (λ g. not (g.id == id)) gone

-- close. A Live connection shuts both directions; one that asks or answers, or is Ended already, is aborted.
abbrev pub after_closing : State → DriverConnection → DriverConnection
after_closing state.Live c = record (after_shut 3 c) { closed = true }
after_closing _ c = record c { end = aborted c.end; closed = true }

abbrev pub is_known : ℕ → DriverState → Bool
is_known id s = is_some (entry_known_as id s) || is_some (gone_known_as id s)

abbrev pub close_of : ℕ → DriverState → Closed
close_of id s = if is_known id s then closed.Done else closed.Unknown

abbrev pub entry_closed : DriverEntry → DriverState → DriverState
entry_closed e s = waits_no_more e (with_connection e.slot (after_closing e.value.end.state e.value) s)

abbrev pub gone_closed : ℕ → DriverState → DriverState
gone_closed id s = elim (gone_known_as id s) [
  | None ↦ s
  | Some g ↦ record s { gone = without_gone id s.gone; listeners = with_waiting g.flow.guest (without_id id) s.listeners }
]

abbrev pub after_close : ℕ → DriverState → DriverState
after_close id s = elim (entry_known_as id s) [ Some e ↦ entry_closed e s | None ↦ gone_closed id s ]

abbrev pub without_listener : ℕ → List Listener → List Listener
without_listener port ls = filter (λ l. not (l.port == port)) ls

-- unlisten: those that wait there are closed, oldest first, and the port is listened on no more.
abbrev pub all_closed : List ℕ → DriverState → DriverState
all_closed [] s = s
all_closed (id ∷ ids) s = all_closed ids (after_close id s)

abbrev pub waiting_on : ℕ → DriverState → List ℕ
waiting_on port s = option_map_or (λ l. l.waiting) (listener_on port s.listeners) []

abbrev pub after_unlisten : ℕ → DriverState → DriverState
after_unlisten port s =
    let closed = all_closed (waiting_on port s) s in
    record closed { listeners = without_listener port closed.listeners }

-- The table, by rising slot.
abbrev pub table_shown : DriverState → List (Flow × State)
table_shown s = map (λ e. (e.flow, e.value.end.state)) s.table.entries

-- What the driver does with the packets and events that it takes.
use Rattle.std.specs.Prelude.{ℕ, ◌==◌, ◌&&◌, not, nat_le, Bool, false, if◌then◌else◌, List, [], ◌∷◌, ◌++◌, Some, None}
use Rattle.vs_header.specs.{Op.op_number, declared.{Header.Header, Kind.TheVariants.Stream, Op.TheVariants.Request}}
use Rattle.laws_history.specs.declared.packet.Packet.{Packet}
use Rattle.vs_conn.specs.{End.{verdict_of, end_after, is_of, is_reset}, declared.end.Verdict.Verdict}
use Rattle.vs_flow.specs.{Flow.{is_assigned, is_host}, Table.entry_of, CleanPairs.of_host, declared.flow.Flow.Flow}
use Rattle.vs_page.specs.{Held.{packet_held, event_held}, Log.{Driver, flow_to_guest}, Open.is_dropped}
use Rattle.vs_replies.specs.{Owed.reply_to, declared.Reply.Reply}
use Rattle.vs_limits.specs.declared.TheConstants.{LAST_ID}
use Rattle.vs_driver_parts.specs.{State.{DriverConnection, DriverState, DriverEntry}, Listening.has_place, Connections.{with_connection, with_request, is_full, leaves_list}}
use Rattle.vs_driver_parts.specs.Connections.{after_leaving, keeping}
use Rattle.vs_wrap.specs.Wrap.{counted}
use Rattle.laws_tables.specs.Steps.{is_kept}
use Rattle.vs_conn.specs.declared.end.Verdict.TheVariants as verdict

abbrev pub with_reply : Reply → DriverState → DriverState
with_reply reply s = record s { replies = s.replies ++ reply ∷ [] }

-- A packet of a connection of the table, by the verdict of its end. RST takes it out of the table, and a marked one may leave its flow to be
-- used again; payload that is delivered is unread; a packet that is refused is counted, and a connection whose RESPONSE isn't put waits no
-- more.
abbrev pub after_packet : Verdict → Packet → DriverConnection → DriverConnection
after_packet verdict.Deliver p c = record c { end = end_after c.end p.header; unread = c.unread ++ p.payload }
after_packet _ p c = record c { end = end_after c.end p.header }

abbrev pub ends_connection : Verdict → Header → Bool
ends_connection verdict.Peer h = is_reset h
ends_connection _ h = false

abbrev pub after_verdict : Verdict → Packet → DriverEntry → DriverState → DriverState
after_verdict (verdict.Rst why) p e s =
    leaves_list e (with_connection e.slot (after_packet (verdict.Rst why) p e.value) (record s { broken = counted s.broken }))
after_verdict v p e s =
    if ends_connection v p.header then
    keeping (is_kept Driver e.flow e.value.end p) e.flow (after_leaving (record e { value = after_packet v p e.value }) s)
    else with_connection e.slot (after_packet v p e.value) s

abbrev pub on_known : Packet → DriverEntry → DriverState → DriverState
on_known p e s = after_verdict (verdict_of e.value.end p.header) p e s

-- A REQUEST of an unknown flow opens a connection where it comes from the host, its host port is one that the device assigns, the guest
-- port is listened on with a place on its list, and a slot and an id are left.
abbrev pub is_request : Header → Bool
is_request h = is_of Stream h && (h.op == op_number Request)

abbrev pub may_open : Flow → DriverState → Bool
may_open flow s =
    is_host flow && is_assigned flow.host && has_place flow.guest s.listeners && not (is_full s) && nat_le s.next_id LAST_ID

-- Any other packet of an unknown flow gets RST, but RST itself.
abbrev pub on_unknown : Packet → DriverState → DriverState
on_unknown p s =
    if is_reset p.header then s
    else if is_request p.header && may_open (flow_to_guest p.header) s then with_request (flow_to_guest p.header) p.header s
    else with_reply (reply_to (flow_to_guest p.header) p.header) s

abbrev pub on_heard : Packet → DriverState → DriverState
on_heard p s = elim (entry_of s.table (flow_to_guest p.header)) [ None ↦ on_unknown p s | Some e ↦ on_known p e s ]

-- A packet of another guest's that is for a CID that isn't this one's is dropped.
abbrev pub on_packet : Packet → DriverState → DriverState
on_packet p s = if is_dropped Driver s.cid p.header then s else on_heard p s

-- A page of the receive queue. One that holds no packet does nothing.
abbrev pub on_page : List ℕ → DriverState → DriverState
on_page page s = elim (packet_held page) [ None ↦ s | Some p ↦ on_packet p s ]

-- A page of the event queue tells a transport reset where its event has the id 0.
abbrev pub is_reset_event : List ℕ → Bool
is_reset_event page = elim (event_held page) [ None ↦ false | Some id ↦ id == 0 ]

-- A transport reset: each connection leaves the table, by rising slot, and RST is owed for its flow. The guest has a CID from now on, so
-- flows with other guests are used no more.
abbrev pub reset_reply : DriverEntry → Reply
reset_reply e = record { flow = e.flow; kind = e.value.end.kind }

abbrev pub all_left : List DriverEntry → DriverState → DriverState
all_left [] s = s
all_left (e ∷ es) s = all_left es (with_reply (reset_reply e) (after_leaving e s))

abbrev pub after_reset : ℕ → DriverState → DriverState
after_reset cid s = all_left s.table.entries (record s { cid = cid; clean = of_host s.clean })

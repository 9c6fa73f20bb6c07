-- The small steps of an end of many connections: what each does to it. A step that puts or gets a packet adds that to the log.
use Rattle.std.specs.Prelude.{◌≡◌, ◌≤◌, ℕ, ◌+◌, nat_le, ◌⊎◌, Bool, true, false, ◌&&◌, if◌then◌else◌, List, [], ◌∷◌, ◌++◌}
use Rattle.vs_conn.specs.{Follows.{owed_packet, payload_packet}, Headers.reset_header, Shut.is_both, declared.end.{Owed.Owed, Verdict.Verdict, Why.TheVariants.Overrun}}
use Rattle.vs_conn.specs.End.{ConnectionEnd, answering, asked, end_after, is_of, paid_of}
use Rattle.vs_flow.specs.{CleanPairs.{kept, of_host}, declared.flow.Flow.Flow}
use Rattle.vs_header.specs.declared.{Header.Header, Kind.Kind}
use Rattle.laws_history.specs.{History.Asker, Packets.{is_clean_rst, is_rst}, declared.packet.Packet.Packet}
use Rattle.vs_limits.specs.declared.TheConstants.{BUF_ALLOC, CLEAN_PAIRS}
use Rattle.vs_page.specs.{Log.{Role, side_of}, Open.asks_for}
use Rattle.vs_replies.specs.declared.Reply.{Reply}
use Rattle.laws_tables.specs.{Ends.{Ends, ends_of, is_among, replaced, replies_of, without, without_flow}, Heard.{own_port, route_of}}
use Rattle.vs_conn.specs.declared.end.Owed.TheVariants as owed
use Rattle.vs_conn.specs.declared.end.Verdict.TheVariants as verdict

-- A flow has this end, or none.
abbrev pub HasEnd : Flow → ConnectionEnd → Ends → Type 0
HasEnd f e part = ends_of f part.entries ≡ e ∷ []

abbrev pub HasNone : Flow → Ends → Type 0
HasNone f part = ends_of f part.entries ≡ []

-- A flow that this end may ask for: its port was not given, or its last connection is over cleanly.
pub record IsNextFlow (role : Role) (f : Flow) (part : Ends) : Type 0 where
  pub asker : side_of role f ≡ Asker
  pub port : (part.next_port ≤ own_port role f) ⊎ (is_among f part.clean ≡ true)

-- A connection comes into the table, behind all others.
abbrev pub with_connection : Flow → ConnectionEnd → Ends → Ends
with_connection f e part = record part { entries = part.entries ++ record { flow = f; end = e } ∷ [] }

-- The port to be given next, once this one was given.
abbrev pub port_after : ℕ → ℕ → ℕ
port_after next port = if nat_le next port then port + 1 else next

abbrev pub with_own : Role → Flow → ConnectionEnd → Ends → Ends
with_own role f e part =
    record (with_connection f e part) { next_port = port_after part.next_port (own_port role f); clean = without f part.clean }

-- This end asks for a connection of this type, and puts its REQUEST at once; or owes it.
abbrev pub opened : Role → Flow → Kind → Ends → Ends
opened role f kind part = with_own role f (paid_of (asked kind BUF_ALLOC) owed.Request) part

abbrev pub asking : Role → Flow → Kind → Ends → Ends
asking role f kind part = with_own role f (asked kind BUF_ALLOC) part

-- It accepts a REQUEST with this header, of this type.
abbrev pub accepted : Flow → Kind → Header → Ends → Ends
accepted f kind h part = with_connection f (answering kind BUF_ALLOC h) part

-- A connection has another end, or leaves the table.
abbrev pub with_end : Flow → ConnectionEnd → Ends → Ends
with_end f e part = record part { entries = replaced f e part.entries }

abbrev pub left : Flow → Ends → Ends
left f part = record part { entries = without_flow f part.entries }

-- An end of a flow put what it owed. With RST the connection leaves.
abbrev pub paid : Flow → ConnectionEnd → Owed → Ends → Ends
paid f e owed.Rst part = left f part
paid f e what part = with_end f (paid_of e what) part

-- The flow of an end is kept to be used again where the end asked, decided to shut both directions, put no RST, and got a marked one.
abbrev pub is_kept : Role → Flow → ConnectionEnd → Packet → Bool
is_kept role f e p = asks_for (side_of role f) && is_both e.own && is_clean_rst p

abbrev pub with_clean : Bool → Flow → Ends → Ends
with_clean true f part = record part { clean = kept CLEAN_PAIRS f part.clean }
with_clean false f part = part

-- An end of a flow got a packet. With an RST of its type the connection leaves.
abbrev pub taken : Role → Flow → ConnectionEnd → Packet → Ends → Ends
taken role f e p part =
    if is_rst p && is_of e.kind p.header then with_clean (is_kept role f e p) f (left f part) else with_end f (end_after e p.header) part

-- An RST of this type is owed to a flow as a reply; the replies that are owed are these.
abbrev pub refused : Flow → Kind → Ends → Ends
refused f kind part = record part { replies = part.replies ++ record { flow = f; kind = kind } ∷ [] }

abbrev pub with_replies : List Reply → Ends → Ends
with_replies rs part = record part { replies = rs }

-- The driver takes a transport reset: all connections leave, an RST is owed to each flow, and the guest has this CID. Flows that are kept
-- stay.
abbrev pub reset : ℕ → Ends → Ends
reset cid part = record part { entries = []; replies = part.replies ++ replies_of part.entries; clean = of_host part.clean; cid = cid }

-- The device makes one: no connection is left and nothing is owed.
abbrev pub emptied : ℕ → Ends → Ends
emptied cid part = record part { entries = []; replies = []; clean = of_host part.clean; cid = cid }

-- The packets that a step puts on a flow, where this is the guest's CID: the REQUEST of a new connection, the packet that an end owes, the
-- one that carries payload, and the RST that is a reply.
abbrev pub request_on : Role → ℕ → Flow → Kind → Packet
request_on role cid f kind = owed_packet (asked kind BUF_ALLOC) (route_of role cid f) owed.Request

abbrev pub owed_on : Role → ℕ → Flow → ConnectionEnd → Owed → Packet
owed_on role cid f e what = owed_packet e (route_of role cid f) what

abbrev pub payload_on : Role → ℕ → Flow → ConnectionEnd → List ℕ → Packet
payload_on role cid f e payload = payload_packet e (route_of role cid f) payload

abbrev pub reply_on : Role → ℕ → Reply → Packet
reply_on role cid r = record { header = reset_header r.kind (route_of role cid r.flow); payload = [] }

-- Whether a packet is refused for more payload than there is room for.
abbrev pub is_overrun : Verdict → Bool
is_overrun (verdict.Rst (Overrun o)) = true
is_overrun _ = false

-- Whether a verdict is that the packet is a message of the peer's.
abbrev pub is_message : Verdict → Bool
is_message verdict.Peer = true
is_message _ = false

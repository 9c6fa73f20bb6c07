-- Where a ring tells the device's log: the chains that the device holds, and over an honest ring its connections and the log.
use Rattle.std.specs.{List.All, Option.ForSome, Prelude.◌≡◌, Prelude.ℕ, Prelude.◌<◌, Prelude.◌≤◌, Prelude.◌^◌, Prelude.◌||◌}
use Rattle.std.specs.Prelude.{Bool, false, true, if◌then◌else◌, List, [], ◌∷◌, length, Option, Some, None, Result, Ok, Err, IfSome}
use Rattle.vs_conn.specs.{End.ConnectionEnd, declared.end.State.State}
use Rattle.vs_header.specs.declared.Kind.TheVariants.{Stream}
use Rattle.vs_credit.specs.{Credit.unread_of, declared.Credit.Credit}
use Rattle.vs_flow.specs.{Table.IsTable, Table.Table, declared.flow.Flow.Flow, declared.table.TableFault.TableFault}
use Rattle.laws_history.specs.{History.Asker, Packets.is_rst, declared.packet.Packet.Packet}
use Rattle.vs_limits.specs.declared.TheConstants.{BUF_ALLOC, BUF_ALLOC_MAX, HOST_CID}
use Rattle.vs_page.specs.{Fair.IsFairLog, Log.Device, Log.Log, Log.side_of, Open.is_open}
use Rattle.vs_replies.specs.declared.Reply.{Reply}
use Rattle.vs_ring_port.specs.{Chains.Held, Chains.same_chain, Contents.RingContents, EndLog.EndLog, declared.device_ring.Chain.Chain}
use Rattle.laws_tables.specs.{Ends.Ends, Ends.entries_of, Ends.is_among, Ends.is_new, Ends.new_flows, Ends.replied, Matches.Matches}
use Rattle.laws_tables.specs.Steps as steps
use Rattle.vs_device_parts.specs.{Playing.IsRxChain, State.DeviceConnection, State.DeviceEntry, State.DeviceState}
use Rattle.laws_tables.specs.Later.{IsPast, StillPast}
use Rattle.vs_flow.specs.Connection.{Connection}

-- The device's connections, the replies that it owes, the flows that it keeps to be used again, the next host port that is assigned, and the
-- guest's CID.
abbrev pub end_in : DeviceConnection → ConnectionEnd
end_in c = c.end

abbrev pub ends_with : ℕ → ℕ → Table DeviceConnection → List Reply → List Flow → Ends
ends_with port cid table replies clean = record {
  entries = entries_of end_in table;
  replies = replies;
  clean = clean;
  next_port = port;
  cid = cid;
}

abbrev pub ends_of_state : ℕ → DeviceState → Ends
ends_of_state port s = ends_with port s.cid s.table s.replies s.clean

-- Ports have 32 bits, CIDs have 64.
pub record IsFitFlow (f : Flow) : Type 0 where
  pub guest : f.guest < 2 ^ 32
  pub host : f.host < 2 ^ 32
  pub peer : f.peer < 2 ^ 64

-- So many bytes are pending at an end with this credit: they were got and aren't forwarded, and no more are unread than there is buffer
-- space, which is at most the largest one.
pub record HoldsBytes (c : Credit) (pending : ℕ) : Type 0 where
  pub unread : pending ≤ unread_of c
  pub within : unread_of c ≤ c.alloc
  pub alloc : c.alloc ≤ BUF_ALLOC_MAX
  pub rx : c.rx_cnt < 2 ^ 32
  pub fwd : c.fwd_cnt < 2 ^ 32

-- A connection whose REQUEST isn't put is one that a client of the host asks for. It has nothing to write, and no moment.
pub record HasNothing (c : DeviceConnection) : Type 0 where
  pub by_client : c.by_client ≡ true
  pub ok_line : c.ok_line ≡ []
  pub pending : c.pending ≡ []
  pub asked_at : c.asked_at ≡ None
  pub shut_at : c.shut_at ≡ None

-- A connection is a stream.
pub record IsFitEntry (e : DeviceEntry) : Type 0 where
  pub ports : IsFitFlow e.flow
  pub kind : e.value.end.kind ≡ Stream
  pub bytes : HoldsBytes e.value.end.credit (length e.value.pending)
  pub new : is_new e.value.end ≡ true → HasNothing e.value

abbrev pub IsFitReply : Reply → Type 0
IsFitReply r = IsFitFlow r.flow

-- A flow that is kept is one with the host.
pub record IsFitClean (f : Flow) : Type 0 where
  pub ports : IsFitFlow f
  pub peer : f.peer ≡ HOST_CID

-- The device's numbers fit their widths, and its table is one.
pub record IsFit (cid : ℕ) (table : Table DeviceConnection) (replies : List Reply) (clean : List Flow) : Type 0 where
  pub cid_fits : cid < 2 ^ 64
  pub sound : IsTable table
  pub entries : All IsFitEntry table.entries
  pub owed : All IsFitReply replies
  pub clean_fit : All IsFitClean clean

abbrev pub IsFitState : DeviceState → Type 0
IsFitState s = IsFit s.cid s.table s.replies s.clean

-- The device and its log, where this was the guest's CID at first and this is the next host port: each connection is the one that the log
-- left, no packet held more payload than there was room for, and the log is fair.
pub record IsLeft (first port cid overrun : ℕ) (table : Table DeviceConnection) (replies : List Reply) (clean : List Flow) (entries : Log)
    : Type 0 where
  pub fits : IsFit cid table replies clean
  pub none_overrun : overrun ≡ 0
  pub matches : Matches Device first (ends_with port cid table replies clean) entries
  pub fair : IsFairLog Device entries

abbrev pub AgreesWith : ℕ → ℕ → DeviceState → EndLog → Type 0
AgreesWith first port s l = IsLeft first port s.cid s.overrun s.table s.replies s.clean l.entries

-- A chain is held.
abbrev pub is_held : Chain → List Held → Bool
is_held chain [] = false
is_held chain (h ∷ held) = if same_chain chain h.chain then true else is_held chain held

-- The chain that the device holds between its calls: nothing is written into it.
abbrev pub unwritten : Option Chain → List Held
unwritten None = []
unwritten (Some chain) = record { chain = chain; bytes = [] } ∷ []

-- Where a ring tells the log, the device holds just its rx chain, unless the ring failed; where the ring is honest too, the device agrees
-- with the log.
abbrev pub IsToldOf : ℕ → ℕ → DeviceState → Bool → EndLog → Type 0
IsToldOf first port s honest l = (s.failed ≡ None → l.held ≡ unwritten s.chain) × (honest ≡ true → AgreesWith first port s l)

abbrev pub IsWith : ℕ → ℕ → DeviceState → RingContents → Type 0
IsWith first port s c = IfSome s.chain IsRxChain × ForSome c.log (IsToldOf first port s c.honest)

-- The flows of a table that is shown.
abbrev pub flows_shown : List (Flow × State) → List Flow
flows_shown [] = []
flows_shown (x ∷ xs) = x.0 ∷ flows_shown xs

-- The table has the flows that the log left open, and those of clients whose REQUEST isn't put; an RST that is owed as a reply ends its
-- flow.
abbrev pub IsLeftOpen : ℕ → DeviceState → List (Flow × State) → EndLog → Type 0
IsLeftOpen first s shown l =
    (f : Flow) → is_among f (flows_shown shown)
    ≡ (is_open Device first f l.entries (is_among f (replied s.replies)) || is_among f (new_flows (entries_of end_in s.table)))

-- Before the first call nothing was put or got, and no chain is held.
abbrev pub IsFresh : RingContents → Type 0
IsFresh c = ForSome c.log (λ l. (l.entries ≡ []) × (l.held ≡ []))

-- The next host port, after a client's connection was asked for on a flow: it stays where that was refused, and where the flow is used again.
abbrev pub port_after : Flow → ℕ → Result ℕ TableFault → ℕ
port_after flow port (Ok slot) = steps.port_after port flow.host
port_after flow port (Err fault) = port

-- A packet tells the usual buffer space or more. RST tells none.
abbrev pub Advertises : Packet → Type 0
Advertises p = is_rst p ≡ false → BUF_ALLOC ≤ p.header.buf_alloc

-- A connection that a client of the host asks for, on a host port that the device assigned.
pub record IsClients (e : DeviceEntry) : Type 0 where
  pub by_client : e.value.by_client ≡ true
  pub asker : side_of Device e.flow ≡ Asker

-- Where an honest ring tells its log: a connection on which no more payload is put, by the device as it was, is one by the device as it is, and
-- no payload was put there. Beside each stands the next host port to be assigned.
abbrev pub StaysPast : Connection → ℕ → DeviceState → RingContents → ℕ → DeviceState → RingContents → Type 0
StaysPast c port s old next t new = old.honest ≡ true → ForSome old.log (λ l. ForSome new.log (λ m.
    IsPast Device c (record { part = ends_of_state port s; log = l.entries })
    → StillPast Device c (record { part = ends_of_state port s; log = l.entries }) (record { part = ends_of_state next t; log = m.entries })))

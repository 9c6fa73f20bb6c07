-- Where an honest ring tells the driver's log: the driver's connections are those that the log left open, and the log is fair.
use Rattle.std.specs.{List.All, Option.ForSome, Prelude.{◌≡◌, ℕ, ◌+◌, ◌<◌, ◌≤◌, ◌^◌, Bool, false, true, List, [], ◌∷◌}}
use Rattle.vs_conn.specs.{End.ConnectionEnd, declared.end.State.State}
use Rattle.vs_flow.specs.{Flow.host_asks, Table.{IsTable, Table}, declared.flow.Flow.Flow}
use Rattle.vs_header.specs.declared.Kind.TheVariants.{Stream}
use Rattle.vs_limits.specs.declared.TheConstants.{HOST_CID, BUF_ALLOC_MAX, LAST_PORT, DRIVER_CONNECTIONS}
use Rattle.vs_page.specs.{Fair.IsFairLog, Log.Driver, Open.is_open}
use Rattle.vs_replies.specs.declared.Reply.{Reply}
use Rattle.vs_ring_port.specs.{Contents.RingContents, EndLog.EndLog}
use Rattle.laws_tables.specs.{Ends.{Ends, entries_of, is_among, replied}, Matches.Matches}
use Rattle.laws_driver.specs.Resets.{MarksResets}
use Rattle.vs_driver_parts.specs.{Held.HeldSlots, Room.HasRoom, State.{DriverConnection, DriverEntry, DriverState}, SlotFields.AreClean}

-- The driver's connections, the replies that it owes, the flows that it keeps to be used again, its next port, and the guest's CID.
abbrev pub end_in : DriverConnection → ConnectionEnd
end_in c = c.end

abbrev pub ends_of_state : DriverState → Ends
ends_of_state s = record { entries = entries_of end_in s.table; replies = s.replies; clean = s.clean; next_port = s.next_port; cid = s.cid }

-- Its slots: the connections of its table and those that are gone, with the numbers that the next ones get, and the flows that it keeps.
abbrev pub slots_of : DriverState → HeldSlots
slots_of s = record {
  next_port = s.next_port;
  next_id = s.next_id;
  last_port = s.last_port;
  last_id = s.last_id;
  table = s.table;
  gone = s.gone;
  clean = s.clean;
}

-- Ports have 32 bits, and the peer's CID has 64.
pub record IsFitFlow (f : Flow) : Type 0 where
  pub guest : f.guest < 2 ^ 32
  pub host : f.host < 2 ^ 32
  pub peer : f.peer < 2 ^ 64

-- A connection is a stream, with the host where the guest has asked the host alone so far. It holds the bytes that its end counts as unread,
-- of which there are at most its buffer space, which is at most BUF_ALLOC_MAX.
pub record IsFitEntry (hosts : Bool) (e : DriverEntry) : Type 0 where
  pub ports : IsFitFlow e.flow
  pub peer : hosts ≡ true → e.flow.peer ≡ HOST_CID
  pub kind : e.value.end.kind ≡ Stream
  pub buffer : HasRoom e.value.end.credit (record { bytes = e.value.unread; capacity = BUF_ALLOC_MAX })

abbrev pub IsFitReply : Reply → Type 0
IsFitReply r = IsFitFlow r.flow

-- A flow that is kept is one with the host, where the guest has asked the host alone so far.
pub record IsFitClean (hosts : Bool) (f : Flow) : Type 0 where
  pub ports : IsFitFlow f
  pub peer : hosts ≡ true → f.peer ≡ HOST_CID

-- The driver's numbers fit their widths, its table has its places, and the ports of its own connections are below the next, of those that
-- stand and of those whose flows are kept.
pub record IsFit (hosts : Bool) (cid next_port next_id : ℕ) (table : Table DriverConnection) (replies : List Reply) (clean : List Flow) : Type 0 where
  pub cid_fits : cid < 2 ^ 64
  pub port_left : next_port ≤ LAST_PORT + 1
  pub sound : IsTable table
  pub places : table.room ≡ DRIVER_CONNECTIONS
  pub given : table.given ≤ next_id
  pub entries : All (IsFitEntry hosts) table.entries
  pub ports : All (λ e. host_asks e.flow ≡ false → e.flow.guest < next_port) table.entries
  pub owed : All IsFitReply replies
  pub clean_fit : All (IsFitClean hosts) clean
  pub clean_sound : AreClean next_port table clean

abbrev pub IsFitState : Bool → DriverState → Type 0
IsFitState hosts s = IsFit hosts s.cid s.next_port s.next_id s.table s.replies s.clean

-- The driver and its log, where the guest has asked the host alone so far, or maybe other guests too, and this was its CID at first: no page is
-- left unpublished, each connection is the one that the log left, the log is fair, and each reset of the transport that the driver was told of
-- has its Mark. Where it has asked the host alone, no packet of a connection was refused. One of another guest's may be: an earlier one is
-- dropped where it's for a CID that the guest hasn't.
pub record AgreesWith (hosts : Bool) (first : ℕ) (s : DriverState) (l : EndLog) : Type 0 where
  pub fits : IsFitState hosts s
  pub published : l.staged.tx ≡ []
  pub none_refused : hosts ≡ true → s.broken ≡ 0
  pub matches : Matches Driver first (ends_of_state s) l.entries
  pub fair : IsFairLog Driver l.entries
  pub marks : MarksResets l.entries

-- The same where the ring is honest and tells the log. Of any other ring nothing is said.
abbrev pub IsHonestWith : Bool → ℕ → DriverState → RingContents → Type 0
IsHonestWith hosts first s c = c.honest ≡ true → ForSome c.log (AgreesWith hosts first s)

abbrev pub IsHonest : DriverState → RingContents → Type 0
IsHonest s c = (hosts : Bool) × (first : ℕ) × IsHonestWith hosts first s c

-- The flows of a table that is shown.
abbrev pub flows_shown : List (Flow × State) → List Flow
flows_shown [] = []
flows_shown (x ∷ xs) = x.0 ∷ flows_shown xs

-- The table has exactly the flows that the log left open, where this was the guest's CID at first; an RST that is owed as a reply ends
-- its flow.
abbrev pub IsLeftOpen : ℕ → List (Flow × State) → List Reply → EndLog → Type 0
IsLeftOpen first shown replies l =
    (f : Flow) → is_among f (flows_shown shown) ≡ is_open Driver first f l.entries (is_among f (replied replies))

-- Before the first call: nothing was put or got, and nothing is staged.
abbrev pub IsFresh : RingContents → Type 0
IsFresh c = c.honest ≡ true → ForSome c.log (λ l. (l.entries ≡ []) × (l.staged.tx ≡ []))

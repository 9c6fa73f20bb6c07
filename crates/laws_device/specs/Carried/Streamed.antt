-- What the host's streams took and gave, against the packets of their connections.
use Rattle.std.specs.Prelude.{◌≡◌, ◌≢◌, ℕ, ◌+◌, ◌<◌, ◌≤◌, ◌++◌, ◌==◌, ◌&&◌, ◌||◌, nat_lt, not, Bool, true, false, if◌then◌else◌, List, [], ◌∷◌, Option, Some, None, AllPairs, Contains, length, position}
use Rattle.std.specs.{List.{All, list_any}, Option.{option_map, option_map_or}, Str.bytes_eq}
use Rattle.vs_conn.specs.{End.{ConnectionEnd, is_of}, declared.end.State.{State, TheVariants.{Answering, Asked, Live}}}
use Rattle.vs_device_parts.specs.State.{DeviceConnection, DeviceEntry, DeviceState}
use Rattle.vs_flow.specs.{Connection.Connection, Flow.host_asks, Table.Table, declared.flow.Flow.Flow}
use Rattle.vs_outside.specs.{Host.{HostContents, Stream, stream_at, waits}, HostBytes.{after_line, has_line, labelled_with}, HostProgram.is_closed}
use Rattle.laws_device.specs.Named.Streams.{stream_under}
use Rattle.vs_uds.specs.{declared.connect.TheConstants.CONNECT_MAX, OkLine.ok_text, Path.path_of, Reading.is_decided}
use Rattle.vs_limits.specs.declared.TheConstants.{DEVICE_CONNECTIONS}
use Rattle.vs_page.specs.{Fair.{IsPrefixOf, number_of, payload_got, payload_put}, Log.{Device, Log, history_of}, declared.log.LogEntry.TheVariants.GotPacket}
use Rattle.vs_proxy_parts.specs.State.{Handshake}
use Rattle.laws_history.specs.{History.puts, Packets.{has, is_clean_rst, is_request}}
use Rattle.laws_tables.specs.{Drains.Drains, Ends.{is_among, is_new}}
use Rattle.vs_header.specs.declared.Kind.TheVariants as kind

-- What counts of a stream: the connection that it is by its label, who made it, whether it waits to be accepted, whether the proxy closed
-- it, and the bytes that the proxy took of it and gave it.
pub record Seen : Type 0 where
  pub label : Option Connection
  pub by_client : Bool
  pub waiting : Bool
  pub closed : Bool
  pub taken : List ℕ
  pub given : List ℕ

-- The streams with one label are counted from 1, in the order in which they got it. A stream that the host doesn't list has number 0.
abbrev pub number_in : List ℕ → ℕ → ℕ
number_in ids id = option_map_or (λ place. place + 1) (position (λ other. other == id) ids) 0

abbrev pub connection_in : HostContents → ℕ → Flow → Connection
connection_in c id f = record { flow = f; number = number_in (labelled_with f c) id }

abbrev pub count_in : HostContents → Flow → ℕ
count_in c f = length (labelled_with f c)

abbrev pub seen_as : Option Connection → Stream → Seen
seen_as label s = record {
  label = label;
  by_client = s.by_client;
  waiting = waits s.state;
  closed = is_closed s;
  taken = s.taken;
  given = s.given;
}

abbrev pub seen : HostContents → ℕ → Stream → Seen
seen c id s = seen_as (option_map (connection_in c id) s.label) s

abbrev pub look : HostContents → ℕ → Option Seen
look c id = option_map (seen c id) (stream_at id c)

-- A client that waits, and one whose line is being read.
abbrev pub client_waits : Seen
client_waits = record { label = None; by_client = true; waiting = true; closed = false; taken = []; given = [] }

abbrev pub reading : List ℕ → Seen
reading line = record { label = None; by_client = true; waiting = false; closed = false; taken = line; given = [] }

-- What was taken of a stream behind its CONNECT line, where it has one.
abbrev pub taken_of : Seen → List ℕ
taken_of s = if s.by_client then after_line s.taken else s.taken

-- The OK line that a stream is given first.
abbrev pub line_for : Flow → List ℕ
line_for f = if host_asks f then ok_text f.host else []

-- Whether an end's stream is given all that came in.
abbrev pub gives_in : State → Bool → Bool
gives_in Live shut = not shut
gives_in Answering shut = not shut
gives_in _ shut = false

abbrev pub gives : ConnectionEnd → Bool
gives e = gives_in e.state e.own.receive

-- The connection of an entry of the device's table: the present one of its flow, or the next one, where its REQUEST isn't put.
abbrev pub connection_of : DeviceEntry → Log → Connection
connection_of e log = let n = number_of Device e.flow log in record { flow = e.flow; number = if is_new e.value.end then n + 1 else n }

-- What a REQUEST of the guest needs for a stream: a listener of the host at the path of its port, a slot, and that no packet was dropped and no call on
-- the host failed. A table that gave as many slots as it has room may have been full. Where listeners come and go nothing is said.
pub record Serving : Type 0 where
  pub base : List ℕ
  pub listening : List (List ℕ)
  pub room : ℕ
  pub given : ℕ
  pub lost : Bool

abbrev pub serving_of : Bool → DeviceState → Serving
serving_of stay s = record {
  base = s.base;
  listening = [];
  room = s.table.room;
  given = s.table.given;
  lost = not stay || (not (s.faults == 0) || not (s.dropped == 0));
}

-- What is known of a host since a proxy has it: whether its listeners stay as they are, and whether no stream of a client was accepted before, but such as
-- are closed.
pub record Since : Type 0 where
  pub stays : Bool
  pub fresh : Bool

-- Its listeners stay, or they come and go on a host that began without streams.
abbrev pub lasting : Bool → Since
lasting fresh = record { stays = true; fresh = fresh }

abbrev pub changing : Since
changing = record { stays = false; fresh = true }

-- The host ports that may be given: those from this one on, and those of flows that may be used again. And whether the proxy accepted all clients.
pub record Ports : Type 0 where
  pub next : ℕ
  pub clean : List Flow
  pub fresh : Bool
  pub serving : Serving

abbrev pub ports_of : Since → ℕ → DeviceState → Ports
ports_of since port s = record { next = port; clean = s.clean; fresh = since.fresh; serving = serving_of since.stays s }

abbrev pub heard_at : HostContents → Ports → Ports
heard_at c port = record port { serving = record port.serving { listening = c.listening } }

-- All REQUESTs that came are of type stream; and each one that came on a flow had what it needs.
abbrev pub asks_streams : Log → Bool
asks_streams [] = true
asks_streams (GotPacket p ∷ log) = (not (is_request p) || is_of kind.Stream p.header) && asks_streams log
asks_streams (_ ∷ log) = asks_streams log

abbrev pub is_heard : Serving → Flow → Bool
is_heard v f = list_any (λ p. bytes_eq p (path_of v.base f.host)) v.listening

abbrev pub serves : Serving → Log → Flow → Bool
serves v log f = is_heard v f && (nat_lt v.given v.room && (not v.lost && asks_streams log))

-- A stream with a label: the payload put on its connection was taken of it, and it was given a prefix of its OK line and the payload got
-- there. Its number is one of those that its flow's streams have.
pub record IsLabelled (s : Seen) (c : Connection) (count : Flow → ℕ) (log : Log) (port : Ports) : Type 0 where
  pub some : 1 ≤ c.number
  pub most : c.number ≤ count c.flow
  pub client : s.by_client ≡ host_asks c.flow
  pub whole : s.by_client ≡ true → has_line s.taken ≡ true
  pub took : payload_put Device c log ≡ taken_of s
  pub gave : IsPrefixOf s.given (line_for c.flow ++ payload_got Device c log)
  -- Its flow isn't one that is still to come.
  pub ported : host_asks c.flow ≡ true → c.flow.host < port.next

-- A connection and its stream, which is its flow's newest, and open until a RESPONSE came.
pub record IsJoined (at : ℕ → Option Seen) (count : Flow → ℕ) (log : Log) (e : DeviceEntry) : Type 0 where
  pub stream : Seen
  pub there : at e.value.stream ≡ Some stream
  pub label : stream.label ≡ Some (connection_of e log)
  pub newest : (connection_of e log).number ≡ count e.flow
  pub client : e.value.by_client ≡ host_asks e.flow
  pub closed : stream.closed ≡ e.value.closed
  pub drains : Drains (gives e.value.end) stream.given (e.value.ok_line ++ e.value.pending)
      (line_for e.flow ++ payload_got Device (connection_of e log) log)
  pub asked : e.value.end.state ≡ Asked → (stream.given ≡ []) × (e.value.ok_line ≡ []) × (e.value.pending ≡ []) × (e.value.closed ≡ false)

-- Lines that are being read: each of its own stream, and none is whole.
pub record AreLines (at : ℕ → Option Seen) (lines : List Handshake) : Type 0 where
  pub read : All (λ h. at h.stream ≡ Some (reading h.line)) lines
  pub undecided : All (λ h. is_decided CONNECT_MAX h.line ≡ false) lines
  pub apart : AllPairs (λ g h. g.stream ≢ h.stream) lines

-- A client's stream that was accepted, has no label and isn't closed; and the handshake of a stream. Each such stream has one; or all but one do, while
-- the whole line of that one is acted upon; and each is older than all that wait.
pub record IsShaking (s : Seen) : Type 0 where
  pub client : s.by_client ≡ true
  pub accepted : s.waiting ≡ false
  pub free : s.label ≡ None
  pub still : s.closed ≡ false

abbrev pub HasHand : List Handshake → ℕ → Type 0
HasHand hands id = (h : Handshake) × Contains hands h × (h.stream ≡ id)

-- Clients are accepted in their order.
abbrev pub AreOlder : (ℕ → Option Seen) → Type 0
AreOlder at = (i j : ℕ) (s t : Seen) → at i ≡ Some s → IsShaking s → at j ≡ Some t → t.waiting ≡ true → i < j

pub record AreShaken (at : ℕ → Option Seen) (hands : List Handshake) : Type 0 where
  pub hand : (id : ℕ) (s : Seen) → at id ≡ Some s → IsShaking s → HasHand hands id
  pub older : AreOlder at

pub record AreShakenBut (one : ℕ) (at : ℕ → Option Seen) (hands : List Handshake) : Type 0 where
  pub hand : (id : ℕ) (s : Seen) → at id ≡ Some s → IsShaking s → id ≢ one → HasHand hands id
  pub older : AreOlder at

-- How many streams have a flow as label, against the REQUESTs on it. On a flow whose port the proxy assigned no REQUEST is put without a
-- stream, and the newest stream may lack one; where the flow is kept to be used again, each stream has one. On any other flow a REQUEST that is
-- dropped or refused gets no stream, and none follows it: so each REQUEST has one, where the device put a marked RST on the present connection,
-- and another REQUEST may come; and where each had what it needs.
abbrev pub CountMatches : Bool → ℕ → ℕ → Bool → Bool → Type 0
CountMatches true count number kept marked = (number ≤ count) × (count ≤ number + 1) × (kept ≡ true → count ≡ number)
CountMatches false count number kept marked = (count ≤ number) × (marked ≡ true → count ≡ number)

abbrev pub AreCounted : (Flow → ℕ) → Ports → Log → Flow → Type 0
AreCounted count port log f =
    CountMatches (host_asks f) (count f) (number_of Device f log) (is_among f port.clean)
    (has is_clean_rst (puts (history_of Device f log)) || serves port.serving log f)

-- A stream that has a label.
pub record HasLabel (at : ℕ → Option Seen) (id : ℕ) : Type 0 where
  pub stream : Seen
  pub connection : Connection
  pub there : at id ≡ Some stream
  pub label : stream.label ≡ Some connection

-- No two streams are of one connection, the streams with a flow as label have all numbers up to their count, and each id that is listed is
-- that of a stream with a label, of which there are at least as many as slots that were given. On a connection without a stream no payload was
-- put.
pub record AreLabelled (at : ℕ → Option Seen) (labelled : List ℕ) (count : Flow → ℕ) (log : Log) (port : Ports) (hands : List Handshake)
    : Type 0 where
  pub labels : (id : ℕ) (s : Seen) (c : Connection) → at id ≡ Some s → s.label ≡ Some c → IsLabelled s c count log port
  pub unique : (i j : ℕ) (s t : Seen) (c : Connection) → at i ≡ Some s → at j ≡ Some t → s.label ≡ Some c → t.label ≡ Some c
      → i ≡ j
  pub every : (c : Connection) → 1 ≤ c.number → c.number ≤ count c.flow → (id : ℕ) × (s : Seen) × (at id ≡ Some s) × (s.label ≡ Some c)
  pub listed : (id : ℕ) → Contains labelled id → HasLabel at id
  pub slots : (port.serving.room ≡ DEVICE_CONNECTIONS) × (port.serving.given ≤ length labelled)
  pub counted : (f : Flow) → AreCounted count port log f
  pub none : (c : Connection) → ((id : ℕ) (s : Seen) → at id ≡ Some s → s.label ≢ Some c) → payload_put Device c log ≡ []
  pub waiting : (id : ℕ) (s : Seen) → at id ≡ Some s → s.waiting ≡ true → s ≡ client_waits
  pub lines : AreLines at hands

-- Each connection has its stream, and each stream with a label that isn't closed is that of a connection. Where the proxy accepted all clients, each of
-- their streams that has no label and isn't closed is one whose line is being read.
pub record AreStreamed (at : ℕ → Option Seen) (labelled : List ℕ) (count : Flow → ℕ) (log : Log) (port : Ports)
    (table : Table DeviceConnection) (hands : List Handshake) : Type 0 where
  pub joined : All (IsJoined at count log) table.entries
  pub tabled : (id : ℕ) (s : Seen) (c : Connection) → at id ≡ Some s → s.label ≡ Some c → s.closed ≡ false
      → (slot : ℕ) × (stream_under table slot ≡ Some id)
  pub streams : AreLabelled at labelled count log port hands
  pub shaken : port.fresh ≡ true → AreShaken at hands

abbrev pub IsStreamed : HostContents → Log → Ports → Table DeviceConnection → List Handshake → Type 0
IsStreamed c log port table lines = AreStreamed (look c) c.labelled (count_in c) log (heard_at c port) table lines

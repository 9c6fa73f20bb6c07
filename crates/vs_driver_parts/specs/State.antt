-- What the driver holds, as plain lists.
use Rattle.std.specs.Prelude.{ℕ, ◌+◌, ◌==◌, ◌&&◌, not, Bool, List, length, find, Option}
use Rattle.vs_conn.specs.End.{ConnectionEnd}
use Rattle.vs_flow.specs.{Table.Table, declared.{flow.Flow.Flow, table.Entry.Entry}}
use Rattle.vs_replies.specs.declared.Reply.{Reply}

-- A connection of the table: its id, its end, and the bytes that came in and aren't read.
pub record DriverConnection : Type 0 where
  pub id : ℕ
  pub end : ConnectionEnd
  pub unread : List ℕ
  -- The host asked for it, and its RESPONSE isn't put.
  pub unanswered : Bool
  -- Its id was closed: the application knows it no more.
  pub closed : Bool

-- A connection that has left the table, and whose id isn't closed.
pub record GoneConnection : Type 0 where
  pub id : ℕ
  pub flow : Flow
  pub end : ConnectionEnd
  pub unread : List ℕ

-- A port that is listened on, and the ids of the connections that wait there, oldest first.
pub record Listener : Type 0 where
  pub port : ℕ
  pub waiting : List ℕ

pub record DriverState : Type 0 where
  -- The guest's CID, and the size of the ring's queues.
  pub cid : ℕ
  pub size : ℕ
  -- The guest port and the id that the next connections get, and those given last, 0 where none was.
  pub next_port : ℕ
  pub next_id : ℕ
  pub last_port : ℕ
  pub last_id : ℕ
  pub table : Table DriverConnection
  -- In the order in which they left.
  pub gone : List GoneConnection
  -- The flows that may be used again, oldest first.
  pub clean : List Flow
  pub listeners : List Listener
  -- RSTs owed to unknown flows, oldest first.
  pub replies : List Reply
  -- Packets on known flows that got RST.
  pub broken : ℕ
  -- Transmit pages staged and not reaped, and pages staged on the queue in work and not published.
  pub in_flight : ℕ
  pub staged : ℕ

abbrev pub DriverEntry : Type 0
DriverEntry = Entry DriverConnection

-- Slots held: by connections of the table, and by those that are gone.
abbrev pub slots_held : DriverState → ℕ
slots_held s = length s.table.entries + length s.gone

-- The connection of the table that the application knows by an id, and the one that is gone.
abbrev pub is_known_as : ℕ → DriverEntry → Bool
is_known_as id e = e.value.id == id && not e.value.closed

abbrev pub entry_known_as : ℕ → DriverState → Option DriverEntry
entry_known_as id s = find (is_known_as id) s.table.entries

abbrev pub gone_known_as : ℕ → DriverState → Option GoneConnection
gone_known_as id s = find (λ g. g.id == id) s.gone

-- What the device holds, as plain lists.
use Rattle.std.specs.Prelude.{ℕ, Bool, false, List, [], Option, None}
use Rattle.vs_conn.specs.End.{ConnectionEnd}
use Rattle.vs_device_parts.specs.declared.answers.Counters.{Counters}
use Rattle.vs_flow.specs.{Table.Table, declared.{flow.Flow.Flow, table.Entry.Entry}}
use Rattle.vs_replies.specs.declared.Reply.{Reply}
use Rattle.vs_limits.specs.declared.TheConstants.{DEVICE_CONNECTIONS}
use Rattle.vs_ring_port.specs.declared.{device_ring.Chain.Chain, failure.Failure.Failure}

-- A connection of the table: its end, and the host's stream that it is joined to.
pub record DeviceConnection : Type 0 where
  pub end : ConnectionEnd
  pub stream : ℕ
  -- A client of the host asked for it.
  pub by_client : Bool
  -- What is left to write of the OK line, and of the payload after it.
  pub ok_line : List ℕ
  pub pending : List ℕ
  -- The moments at which its REQUEST was put, and at which it had decided to shut both directions.
  pub asked_at : Option ℕ
  pub shut_at : Option ℕ
  -- The device closed the stream; it shut the side that it writes to.
  pub closed : Bool
  pub write_shut : Bool

abbrev pub DeviceEntry : Type 0
DeviceEntry = Entry DeviceConnection

pub record DeviceState : Type 0 where
  -- The guest's CID, and the base path.
  pub cid : ℕ
  pub base : List ℕ
  -- The moment of the last tick, in milliseconds.
  pub now : ℕ
  pub table : Table DeviceConnection
  -- RSTs owed to unknown flows, oldest first.
  pub replies : List Reply
  -- The flows that may be used again, oldest first.
  pub clean : List Flow
  pub event_owed : Bool
  -- The rx chain that is held for the next packet.
  pub chain : Option Chain
  -- The slot that last put a packet.
  pub last_put : Option ℕ
  -- The failure of the ring, which is kept.
  pub failed : Option Failure
  pub dropped : ℕ
  pub overrun : ℕ
  pub faults : ℕ
  pub opened : ℕ
  pub closed : ℕ

-- A device before its first call.
abbrev pub new_device : ℕ → List ℕ → DeviceState
new_device cid base = record {
  cid = cid;
  base = base;
  now = 0;
  table = record { room = DEVICE_CONNECTIONS; entries = []; given = 0 };
  replies = [];
  clean = [];
  event_owed = false;
  chain = None;
  last_put = None;
  failed = None;
  dropped = 0;
  overrun = 0;
  faults = 0;
  opened = 0;
  closed = 0;
}

-- What it counted.
abbrev pub counters_of : DeviceState → Counters
counters_of s = record { dropped = s.dropped; overrun = s.overrun; faults = s.faults; opened = s.opened; closed = s.closed }

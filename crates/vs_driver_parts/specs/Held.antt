-- The slots of the driver, apart from the rest of it.
use Rattle.std.specs.Prelude.{◌≡◌, ℕ, ◌+◌, ◌==◌, Bool, false, true, List, [], ◌∷◌, ◌++◌, length, find, None, if◌then◌else◌}
use Rattle.vs_conn.specs.End.{ConnectionEnd, asked, answering, paid_of}
use Rattle.vs_header.specs.declared.{Header.Header, Kind.TheVariants.Stream}
use Rattle.vs_limits.specs.declared.TheConstants.{BUF_ALLOC, DRIVER_CONNECTIONS}
use Rattle.vs_flow.specs.{Table.{Table, with_value, with_entry, without}, declared.flow.Flow.Flow, CleanPairs.{kept_if, of_host}}
use Rattle.vs_driver_parts.specs.{State.{DriverConnection, DriverEntry, GoneConnection, is_known_as}, Connections.{gone_as, is_let_go}}
use Rattle.laws_tables.specs.{Ends.without as flows_without, Steps.port_after}
use Rattle.vs_conn.specs.declared.end.Owed.TheVariants as owed

-- The numbers that the next connections get, and those given last; the table, the connections that are gone, and the flows that may be used
-- again.
pub record HeldSlots : Type 0 where
  pub next_port : ℕ
  pub next_id : ℕ
  pub last_port : ℕ
  pub last_id : ℕ
  pub table : Table DriverConnection
  pub gone : List GoneConnection
  pub clean : List Flow

abbrev pub no_slots : ℕ → ℕ → HeldSlots
no_slots port id = record {
  next_port = port;
  next_id = id;
  last_port = 0;
  last_id = 0;
  table = record { room = DRIVER_CONNECTIONS; entries = []; given = 0 };
  gone = [];
  clean = [];
}

-- How many slots are held.
abbrev pub held_in : HeldSlots → ℕ
held_in s = length s.table.entries + length s.gone

-- The application knows no connection by an id.
abbrev pub KnowsNone : ℕ → HeldSlots → Type 0
KnowsNone id s = (find (is_known_as id) s.table.entries ≡ None) × (find (λ g. g.id == id) s.gone ≡ None)

-- A connection is another.
abbrev pub with_connection_in : ℕ → DriverConnection → HeldSlots → HeldSlots
with_connection_in slot c s = record s { table = with_value s.table slot c }

-- A connection opens, with the next id.
abbrev pub with_opening : Flow → ConnectionEnd → Bool → HeldSlots → HeldSlots
with_opening flow end unanswered s = record s {
  next_id = s.next_id + 1;
  last_id = s.next_id;
  table = with_entry s.table flow (record { id = s.next_id; end = end; unread = []; unanswered = unanswered; closed = false });
}

-- It is one whose REQUEST is put, on the next flow, or one that answers a REQUEST.
abbrev pub with_asked_in : Flow → HeldSlots → HeldSlots
with_asked_in f s =
    record (with_opening f (paid_of (asked Stream BUF_ALLOC) owed.Request) false s) {
      next_port = port_after s.next_port f.guest;
      last_port = f.guest;
      clean = flows_without f s.clean;
    }

abbrev pub with_answering_in : Flow → Header → HeldSlots → HeldSlots
with_answering_in flow request s = with_opening flow (answering Stream BUF_ALLOC request) true s

-- A connection leaves the table, and its flow may be used again, or not.
abbrev pub left_in : DriverEntry → HeldSlots → HeldSlots
left_in e s = record s { table = without s.table e.slot; gone = if is_let_go e.value then s.gone else s.gone ++ gone_as e ∷ [] }

abbrev pub kept_in : Bool → Flow → HeldSlots → HeldSlots
kept_in keep f s = record s { clean = kept_if keep f s.clean }

-- Of the flows that may be used again those with the host stay.
abbrev pub host_kept_in : HeldSlots → HeldSlots
host_kept_in s = record s { clean = of_host s.clean }

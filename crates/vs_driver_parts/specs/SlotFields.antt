-- What always holds of the fields of the driver's slots. No public clause cites this module.
use Rattle.std.specs.{Prelude.{◌≡◌, ◌≢◌, ℕ, false, None, ◌+◌, ◌<◌, ◌≤◌, AllPairs, List, length, vec_capacity, [], ◌∷◌}, List.All}
use Rattle.vs_flow.specs.{Flow.host_asks, Table.{Table, IsTable, entry_of}, declared.flow.Flow.Flow}
use Rattle.vs_limits.specs.declared.TheConstants.{DRIVER_CONNECTIONS, LAST_ID, LAST_PORT}
use Rattle.vs_driver_parts.specs.{declared.slots.Slots.TheInside.Inside, Owing.AreNoted, Room.IsSpare, State.{DriverConnection, GoneConnection}}
use Rattle.laws_tables.specs.Ends.{AreDistinct}

-- A slot and an id are given together, from the first id on; an id that is gone is none of the table's, and is there once. The flow of a
-- connection that this side opened has a guest port below the next.
pub record AreNumbered (first port next : ℕ) (table : Table DriverConnection) (gone : List GoneConnection) : Type 0 where
  pub given : next ≡ first + table.given
  pub slots : All (λ e. e.value.id ≡ first + e.slot) table.entries
  pub below : All (λ g. g.id < next) gone
  pub apart : All (λ g. All (λ e. e.value.id ≢ g.id) table.entries) gone
  pub distinct : AllPairs (λ g h. g.id ≢ h.id) gone
  pub ports : All (λ e. host_asks e.flow ≡ false → e.flow.guest < port) table.entries

-- A flow that may be used again is of a connection that this side opened, and isn't in the table.
pub record MayReuse (port : ℕ) (table : Table DriverConnection) (f : Flow) : Type 0 where
  pub own : host_asks f ≡ false
  pub given : f.guest < port
  pub absent : entry_of table f ≡ None

abbrev pub AllReuse : ℕ → Table DriverConnection → List Flow → Type 0
AllReuse port table [] = Unit {0}
AllReuse port table (f ∷ fs) = MayReuse port table f × AllReuse port table fs

-- So all are that are kept, and none is kept twice. It stays one fact, so that a search doesn't look into it.
pub record KeepsClean (port : ℕ) (table : Table DriverConnection) (clean : List Flow) : Type 0 where
  pub each : AllReuse port table clean
  pub once : AreDistinct clean

unfoldable pub AreClean : ℕ → Table DriverConnection → List Flow → Type 0
AreClean port table clean = KeepsClean port table clean

-- There are buffers for all slots, and room for all connections. A connection owes a packet only where it was noted that it may.
pub record AreKept (s : Inside) : Type 0 where
  pub numbers : AreNumbered s.first_id s.next_port s.next_id s.table s.gone.items
  pub clean : AreClean s.next_port s.table s.clean
  pub last_port : s.next_port ≤ LAST_PORT + 1
  pub last_id : s.next_id ≤ LAST_ID + 1
  pub table : IsTable s.table
  pub table_room : s.table.room ≡ DRIVER_CONNECTIONS
  pub gone_room : DRIVER_CONNECTIONS ≤ vec_capacity s.gone
  pub buffers : length s.spare.items + (length s.table.entries + length s.gone.items) ≡ DRIVER_CONNECTIONS
  pub buffer_room : DRIVER_CONNECTIONS ≤ vec_capacity s.spare
  pub spare : All IsSpare s.spare.items
  pub noted : AreNoted s.owes s.table

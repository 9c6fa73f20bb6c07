-- What always holds of the fields of the device's slots. No public clause cites this module.
use Rattle.std.specs.{Prelude.◌≡◌, Prelude.◌+◌, Prelude.◌≤◌, Prelude.length, Prelude.vec_capacity, List.All}
use Rattle.vs_flow.specs.Table.{IsTable, slots}
use Rattle.vs_limits.specs.declared.TheConstants.{DEVICE_CONNECTIONS}
use Rattle.vs_device_parts.specs.{declared.slots.Slots.TheInside.Inside, Noted.notes_of, Room.IsSpare, Watched.AreWatched}

-- There are buffers for all connections, and what is known of them holds, their slots too.
pub record AreKept (s : Inside) : Type 0 where
  pub table : IsTable s.table
  pub room : s.table.room ≡ DEVICE_CONNECTIONS
  pub buffers : length s.spare.items + length s.table.entries ≡ DEVICE_CONNECTIONS
  pub buffer_room : DEVICE_CONNECTIONS ≤ vec_capacity s.spare
  pub spare : All IsSpare s.spare.items
  pub order : s.order.items ≡ slots s.table
  pub watched : AreWatched s.watch s.table
  pub notes : s.notes ≡ notes_of s.table

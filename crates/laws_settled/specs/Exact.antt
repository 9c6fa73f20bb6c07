-- What the device holds of its connections.
use Rattle.std.specs.{List.All, Prelude.length}
use Rattle.vs_flow.specs.Table.{Table}
use Rattle.vs_device_parts.specs.State.{DeviceConnection}
use Rattle.laws_device.specs.Honest.{HoldsBytes}
use Rattle.laws_rest.specs.Pending.{IsExact}

-- Just the bytes that an end counts as unread are pending, until it is over; and its numbers fit.
pub record HoldsExactly (c : DeviceConnection) : Type 0 where
  pub bytes : HoldsBytes c.end.credit (length c.pending)
  pub exact : IsExact c

-- So it is of all connections of a table.
abbrev pub AreExact : Table DeviceConnection → Type 0
AreExact t = All (λ e. HoldsExactly e.value) t.entries

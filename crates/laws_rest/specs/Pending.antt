-- What the device holds of a connection.
use Rattle.std.specs.Prelude.{◌≡◌, ◌≢◌, length}
use Rattle.vs_conn.specs.declared.end.State.TheVariants.{Ended}
use Rattle.vs_credit.specs.Credit.{unread_of}
use Rattle.vs_device_parts.specs.State.{DeviceConnection}

-- Until its end is over, just the bytes that the end counts as unread are pending.
abbrev pub IsExact : DeviceConnection → Type 0
IsExact c = c.end.state ≢ Ended → unread_of c.end.credit ≡ length c.pending

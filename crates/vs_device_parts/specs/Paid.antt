-- A connection after it put what it owed: from its REQUEST on it waits for the answer.
use Rattle.std.specs.Prelude.{ℕ, Some}
use Rattle.vs_conn.specs.{End.paid_of, declared.end.Owed.Owed}
use Rattle.vs_conn.specs.declared.end.Owed.TheVariants as owed
use Rattle.vs_device_parts.specs.State.{DeviceConnection}

abbrev pub paid_connection : Owed → ℕ → DeviceConnection → DeviceConnection
paid_connection owed.Request now c = record c { end = paid_of c.end owed.Request; asked_at = Some now }
paid_connection what now c = record c { end = paid_of c.end what }

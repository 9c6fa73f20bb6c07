-- What is known of all connections at once: when the first of them may time out, whether one may have something
-- for its stream, and whether one may owe a packet.
use Rattle.std.specs.{Prelude.{◌≡◌, ℕ, ◌<◌, ◌==◌, ◌&&◌, ◌||◌, not, Bool, false, length, None}, List.All}
use Rattle.vs_conn.specs.End.{owes_of}
use Rattle.vs_flow.specs.Table.{Table}
use Rattle.vs_device_parts.specs.{Connections.is_timed_out, State.DeviceConnection, declared.watch.Watch.Watch}

-- A round of writing does something on the connection: bytes are to be written to its stream, or the write side is to be shut.
abbrev pub has_to_write : DeviceConnection → Bool
has_to_write c =
    not c.closed && (not (length c.ok_line == 0) || not (length c.pending == 0) || (c.end.peer.send && not c.write_shut))

-- What is known holds of a connection.
pub record IsWatched (w : Watch) (c : DeviceConnection) : Type 0 where
  pub due : (now : ℕ) → now < w.due → is_timed_out now c ≡ false
  pub writes : w.writes ≡ false → has_to_write c ≡ false
  pub owes : w.owes ≡ false → owes_of c.end ≡ None

-- It holds of all.
abbrev pub AreWatched : Watch → Table DeviceConnection → Type 0
AreWatched w t = All (λ e. IsWatched w e.value) t.entries

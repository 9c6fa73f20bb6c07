-- Which directions a device shut of its connections, by their streams.
use Rattle.std.specs.{List.All, Option.ForSome, Prelude.{◌≡◌, ℕ, true, false, [], Option, Some}}
use Rattle.vs_flow.specs.Table.{Table}
use Rattle.vs_outside.specs.Host.{HostContents, Stream, stream_at}
use Rattle.vs_device_parts.specs.State.{DeviceConnection}

-- A stream on which the host's program wrote its last byte, and of which all was taken, unless it gives back what is given to it. One that the program closed,
-- and one like that.
abbrev pub GivesNoMore : Stream → Type 0
GivesNoMore s = (s.ended ≡ true) × (s.echoes ≡ false → s.untaken ≡ [])

abbrev pub IsClosedAt : ℕ → HostContents → Type 0
IsClosedAt id h = (s : Stream) × (stream_at id h ≡ Some s) × (s.host_closed ≡ true)

abbrev pub IsEndedAt : ℕ → HostContents → Type 0
IsEndedAt id h = (s : Stream) × (stream_at id h ≡ Some s) × GivesNoMore s

-- A connection takes no more of the guest's bytes only where its stream was closed so, and sends no more only where it was ended.
pub record IsShutBy (c : DeviceConnection) (h : HostContents) : Type 0 where
  pub receives : c.end.own.receive ≡ true → IsClosedAt c.stream h
  pub sends : c.end.own.send ≡ true → IsEndedAt c.stream h

-- So it is of all connections of a table, where the host exposes its streams.
abbrev pub AreShutBy : Table DeviceConnection → Option HostContents → Type 0
AreShutBy t host = ForSome host (λ h. All (λ e. IsShutBy e.value h) t.entries)

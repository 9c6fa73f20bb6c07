-- Lines of a run's report against the host's streams: which connections are streams of the host.
use Rattle.std.specs.{List.All, Prelude.{◌≡◌, ◌≤◌, ◌⊎◌, ℕ, true, false, List, length, Some}}
use Rattle.vs_limits.specs.declared.TheConstants.{DEVICE_CONNECTIONS}
use Rattle.vs_uds.specs.Path.{path_of}
use Rattle.vs_flow.specs.{Connection.Connection, Flow.host_asks}
use Rattle.vs_outside.specs.{Host.{HostContents, Stream, is_listened}, HostBytes.stream_of}
use Rattle.vs_run_report.specs.declared.connection.Opened.{Opened}

-- A connection has its stream, which a client made where the host asked for it, and else a dial.
abbrev pub HasStream : Connection → HostContents → Type 0
HasStream c h = (s : Stream) × (stream_of c h ≡ Some s) × (s.by_client ≡ host_asks c.flow)

-- Each connection of a client that has a line does.
abbrev pub AreClients : (ℕ → Connection) → List Opened → HostContents → Type 0
AreClients opened lines h = All (λ o. host_asks (opened o.id).flow ≡ true → HasStream (opened o.id) h) lines

-- And so does each that an app asked for, at whose port the host's program listens under this base path; or there are as many streams with a label as
-- the device has places, or more.
abbrev pub AreDialed : List ℕ → (ℕ → Connection) → List Opened → HostContents → Type 0
AreDialed base opened lines h = All (λ o. host_asks (opened o.id).flow ≡ false → is_listened (path_of base (opened o.id).flow.host) h ≡ true
    → HasStream (opened o.id) h ⊎ (DEVICE_CONNECTIONS ≤ length h.labelled)) lines

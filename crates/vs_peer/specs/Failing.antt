-- Which of a client's calls failed.
use Rattle.std.specs.Prelude.{Bool, true, false, Result, Err}
use Rattle.vs_peer.specs.declared.{source.ReadError.ReadError, stop.Stop.Stop}
use Rattle.vs_peer.specs.declared.source.ReadError.TheVariants as read_error
use Rattle.vs_peer.specs.declared.stop.Stop.TheVariants as stop

-- whether a call of the host failed
abbrev pub host_failed : {A : Type 0} → Result A Stop → Bool
host_failed (Err stop.Host) = true
host_failed _ = false

-- whether a call of the sink failed
abbrev pub sink_failed : {A : Type 0} → Result A Stop → Bool
sink_failed (Err stop.Sink) = true
sink_failed _ = false

-- whether a call of the source failed
abbrev pub source_failed : {A : Type 0} → Result A ReadError → Bool
source_failed (Err read_error.Fault) = true
source_failed _ = false

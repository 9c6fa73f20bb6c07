-- What a load that is over says, with its line.
use Rattle.std.proofs.Common.{◌≡◌, ℕ, List, Result, Ok, Err, IfOk, refl}
use Rattle.vs_limits.specs.declared.TheConstants.{FIRST_PORT}
use Rattle.vs_ring_shared.specs.declared.counters.Met.{Met}
use Rattle.vs_apps_parts.specs.Scripts.{RunScript}
use Rattle.laws_settled.specs.Begun.{Start}
use Rattle.vs_apps.specs.Guests.{GuestsState}
use Rattle.vs_run_apps.specs.{Runs.HasRun, Sides.SideState}
use Rattle.vs_load_parts.specs.Line.{load_line}
use Rattle.vs_load.specs.Loads.{IsOver}

pub over : {S E : Type 0} (bytes_of : S → List ℕ) (conns : ℕ) (script : RunScript) (start : Start) (g : GuestsState) (s : SideState) (met : Met) (r : Result S E)
    → HasRun FIRST_PORT script start g s met → IfOk r (λ line. bytes_of line ≡ load_line conns script g.entries g.bytes)
    → IfOk r (λ line. IsOver conns script start s.contents s.faults (bytes_of line))
over bytes_of conns script start g s met (Ok line) run is =
    record { guests = g; side = s; met = met; exposes = refl; counts = refl; ran = run; is = is }
over bytes_of conns script start g s met (Err e) run is = tt

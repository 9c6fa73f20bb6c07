-- What a run of apps prints, and how it ends.
use Rattle.std.specs.Prelude.{◌≡◌, ℕ, true, List, Option, Result, Ok, Err}
use Rattle.vs_outside.specs.{Faults.CountsFault, Host.HostContents}
use Rattle.vs_peer.specs.Pieces.{Emits, EmitsSome}
use Rattle.vs_proxy_parts.specs.State.{ProxyState}
use Rattle.vs_ring_shared.specs.declared.counters.Met.{Met}
use Rattle.vs_apps_parts.specs.Scripts.{RunScript}
use Rattle.vs_apps.specs.Guests.{GuestsState}
use Rattle.vs_report.specs.{Gives.joined, declared.giving.GiveError.GiveError}
use Rattle.vs_report.specs.declared.giving.GiveError.TheVariants as give
use Rattle.vs_run_report.specs.Report.{run_status, run_texts}
use Rattle.laws_settled.specs.Begun.{Start}
use Rattle.vs_run_apps.specs.{Runs.HasRun, Runs.totals_of, Sides.SideState, declared.whole.RunError.RunError}
use Rattle.vs_run_apps.specs.declared.whole.RunError.TheVariants as error

-- The lines of its report. `idle` is after how many steps that waited an app gave up.
abbrev pub texts_of : ℕ → RunScript → GuestsState → ProxyState → List (List ℕ)
texts_of idle script g p = run_texts idle script g.apps g.entries g.bytes (totals_of g p)

-- A sink was given all of the report, and no call of it failed: then this is the status. Or a call failed, and it was given less than all. Or
-- memory ran out, and it was given nothing.
abbrev pub Gives : ℕ → RunScript → GuestsState → ProxyState → Option (List ℕ) → Option (List ℕ) → ℕ → ℕ → Result ℕ GiveError → Type 0
Gives idle script g p old new faults faults' (Ok status) =
    (status ≡ run_status script g.apps g.entries) × Emits old new (joined (texts_of idle script g p)) × (faults' ≡ faults)
Gives idle script g p old new faults faults' (Err give.Sink) =
    EmitsSome old new (joined (texts_of idle script g p)) × CountsFault true faults faults'
Gives idle script g p old new faults faults' (Err give.OutOfMemory) = (new ≡ old) × (faults' ≡ faults)

-- A run by a guest with this first port that began with this base path and host was over, with a host that exposes this and of which so many calls failed,
-- and P is so of both its sides. What it reports is right, as `HasRun` says, where the host exposed its streams and none had a label.
abbrev pub IsOver : ℕ → RunScript → Start → Option HostContents → ℕ → (GuestsState → ProxyState → Type 0) → Type 0
IsOver first script start contents faults P =
    (g : GuestsState) × (s : SideState) × (met : Met) × (s.contents ≡ contents) × (s.faults ≡ faults) × HasRun first script start g s met × P g s.proxy

-- A run was over, and its report was given, all of it or less than all. Or memory ran out, and nothing was given.
abbrev pub Reports : ℕ → ℕ → RunScript → Start → Option HostContents → ℕ → Option (List ℕ) → Option (List ℕ) → ℕ → ℕ → Result ℕ GiveError → Type 0
Reports idle first script start contents failed old new faults faults' (Ok status) =
    IsOver first script start contents failed (λ g p. Gives idle script g p old new faults faults' (Ok status))
Reports idle first script start contents failed old new faults faults' (Err give.Sink) =
    IsOver first script start contents failed (λ g p. Gives idle script g p old new faults faults' (Err give.Sink))
Reports idle first script start contents failed old new faults faults' (Err give.OutOfMemory) = (new ≡ old) × (faults' ≡ faults)

-- The same; or the host didn't start and counted a fault, and nothing was given.
abbrev pub Answers : ℕ → ℕ → RunScript → Start → Option HostContents → ℕ → Option (List ℕ) → Option (List ℕ) → ℕ → ℕ → Result ℕ RunError → Type 0
Answers idle first script start contents failed old new faults faults' (Ok status) =
    Reports idle first script start contents failed old new faults faults' (Ok status)
Answers idle first script start contents failed old new faults faults' (Err (error.NotGiven e)) =
    Reports idle first script start contents failed old new faults faults' (Err e)
Answers idle first script start contents failed old new faults faults' (Err error.NotStarted) =
    CountsFault true start.faults failed × (new ≡ old) × (faults' ≡ faults)

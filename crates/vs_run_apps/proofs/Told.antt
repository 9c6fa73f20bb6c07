-- What a run that is over says, with what was given of its report.
use Rattle.std.proofs.Common.{◌≡◌, ℕ, List, Option, Result, Ok, Err, refl}
use Rattle.vs_ring_shared.specs.declared.counters.Met.{Met}
use Rattle.vs_proxy_parts.specs.State.{ProxyState}
use Rattle.vs_apps_parts.specs.{Scripts.RunScript, declared.journal.Entry.Entry, declared.progress.AppState.AppState}
use Rattle.vs_apps.specs.Guests.{GuestsState}
use Rattle.vs_report.specs.declared.giving.{GiveError.GiveError, Totals.Totals}
use Rattle.vs_report.specs.declared.giving.GiveError.TheVariants as give
use Rattle.vs_run_report.specs.Report.{run_texts}
use Rattle.laws_settled.specs.Begun.{Start}
use Rattle.vs_run_apps.specs.{Printed.Gives, Printed.Reports, Printed.texts_of, Runs.HasRun, Runs.totals_of, Sides.SideState}

pub reported : (idle first : ℕ) (script : RunScript) (start : Start) (g : GuestsState) (s : SideState) (met : Met) (old new : Option (List ℕ)) (faults faults' : ℕ)
    (r : Result ℕ GiveError) → HasRun first script start g s met → Gives idle script g s.proxy old new faults faults' r
    → Reports idle first script start s.contents s.faults old new faults faults' r
reported idle first script start g s met old new faults faults' (Ok status) run given = (g, s, met, refl, refl, run, given)
reported idle first script start g s met old new faults faults' (Err give.Sink) run given = (g, s, met, refl, refl, run, given)
reported idle first script start g s met old new faults faults' (Err give.OutOfMemory) run given = given

-- the lines of what guests and a proxy show are theirs
pub same_texts : (idle : ℕ) (script own : RunScript) (g : GuestsState) (p : ProxyState) (apps : List AppState) (entries : List Entry) (bytes : List ℕ)
    (t : Totals) → script ≡ own → apps ≡ g.apps → entries ≡ g.entries → bytes ≡ g.bytes → t ≡ totals_of g p
    → run_texts idle script apps entries bytes t ≡ texts_of idle own g p
same_texts idle script own g p apps entries bytes t named states noted received counted = rw (named, states, noted, received, counted) refl

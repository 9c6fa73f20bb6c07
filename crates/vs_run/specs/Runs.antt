-- How a run of apps ends, and a load.
use Rattle.std.specs.Prelude.{◌≡◌, ◌⊎◌, ℕ, true, List, [], Option, Result, Ok, Err}
use Rattle.vs_outside.specs.{Faults.CountsFault, Host.HostContents}
use Rattle.vs_peer.specs.{Ends.EndsAs, Text.host_fault_text, Text.no_memory_text}
use Rattle.vs_report.specs.Gives.{joined}
use Rattle.vs_script.specs.{Script.Runs, Script.Saying, declared.fault.Refused.Refused}
use Rattle.vs_apps_parts.specs.Scripts.{AreRight, RunScript}
use Rattle.vs_run_report.specs.Report.{run_status}
use Rattle.laws_settled.specs.Begun.{start_with}
use Rattle.vs_run_apps.specs.Printed.{IsOver, texts_of}
use Rattle.vs_load.specs.Loads.{IsLoaded}
use Rattle.vs_run.specs.Ends.{EndsWith, refusal_text}

-- The bits of each shutdown are 1 to 3, where a script is one of apps.
abbrev pub IsRight : Saying → Type 0
IsRight (Runs apps) = AreRight apps
IsRight _ = Unit {0}

-- A host is as before, and no call of it failed.
abbrev pub IsUntouched : Option HostContents → Option HostContents → ℕ → ℕ → Type 0
IsUntouched host host' faults faults' = (host' ≡ host) × (faults' ≡ faults)

-- How the apps of a script end, under this base path, of a guest with this first port: a run was over, and its report was written, with its
-- status, which is right, and the run complete under that path, where the host exposed its streams and none had a label; or memory ran out, and
-- `no memory` was written, and nothing before; or the host didn't start, and `host fault` was written.
abbrev pub EndsOver : List ℕ → ℕ → ℕ → RunScript → Option HostContents → Option HostContents → ℕ → ℕ → Option (List ℕ) → Option (List ℕ) → ℕ → ℕ → ℕ → Type 0
EndsOver base idle first script host host' failed failed' out out' faults faults' result =
    IsOver first script (start_with base host failed) host' failed' (λ g p. EndsAs out out' faults faults' (joined (texts_of idle script g p)) (run_status script g.apps g.entries)
    result)
    ⊎ EndsAs out out' faults faults' no_memory_text 9 result
    ⊎ (CountsFault true failed failed' × EndsAs out out' faults faults' host_fault_text 6 result)

-- How a run ends that has read its script: as the apps do, or as the script is refused, before the host was touched. A script of another command
-- has no lines.
abbrev pub EndsRun : List ℕ → ℕ → ℕ → Option HostContents → Option HostContents → ℕ → ℕ → Option (List ℕ) → Option (List ℕ) → ℕ → ℕ → ℕ → Result Saying Refused →
    Type 0
EndsRun base idle first host host' failed failed' out out' faults faults' result (Ok (Runs apps)) =
    EndsOver base idle first apps host host' failed failed' out out' faults faults' result
EndsRun base idle first host host' failed failed' out out' faults faults' result (Ok said) =
    EndsWith out out' faults faults' [] 0 result × IsUntouched host host' failed failed'
EndsRun base idle first host host' failed failed' out out' faults faults' result (Err r) =
    EndsWith out out' faults faults' (refusal_text r) 2 result × IsUntouched host host' failed failed'

-- How a load ends: its line was written, and the status is 0; or memory ran out, and `no memory` was written.
abbrev pub EndsLoad : ℕ → ℕ → ℕ → Option (List ℕ) → Option (List ℕ) → ℕ → ℕ → ℕ → Type 0
EndsLoad number conns bytes out out' faults faults' result =
    ((line : List ℕ) × IsLoaded number conns bytes line × EndsAs out out' faults faults' line 0 result)
    ⊎ EndsAs out out' faults faults' no_memory_text 9 result

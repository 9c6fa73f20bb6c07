use Rattle.std.{proofs.Common.{◌≡◌, map}, specs.List.range_with_len}
use Rattle.vs_apps_parts.specs.Scripts.{script_of}
use Rattle.vs_run_report.specs.Report.{ended_at, status_of}
use Rattle.vs_run_report.proofs.report.run_status.Given as goal

-- the status by the apps so far
abbrev pub invariant-loop-k : goal.invariant-loop-k
invariant-loop-k l = l.status ≡ status_of (map (ended_at (script_of l.script) l.apps l.entries) (range_with_len 0 l.k))

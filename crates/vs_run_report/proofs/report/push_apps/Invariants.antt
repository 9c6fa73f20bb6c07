use Rattle.std.{proofs.Common.{◌≡◌, ◌++◌, map, string_bytes}, specs.List.range_with_len}
use Rattle.vs_apps_parts.specs.Scripts.{script_of}
use Rattle.vs_report.specs.Gives.{joined}
use Rattle.vs_run_report.specs.Report.{app_line}
use Rattle.vs_run_report.proofs.report.push_apps.Given as goal

-- the lines of the apps so far
abbrev pub invariant-loop-k : goal.invariant-loop-k
invariant-loop-k l =
    string_bytes l.out ≡ string_bytes l.fn.out ++ joined (map (app_line l.idle (script_of l.script) l.apps l.entries) (range_with_len 0 l.k))

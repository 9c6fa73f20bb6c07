use Rattle.std.proofs.Common.{◌≡◌, ◌++◌, map, string_bytes}
use Rattle.vs_apps_parts.specs.{Journals.calls_of, Scripts.script_of}
use Rattle.vs_report.specs.Gives.{joined}
use Rattle.vs_run_report.specs.Connections.{opened_all, opened_text}
use Rattle.vs_run_report.proofs.report.push_connections.Given as goal

-- the lines of the apps so far
abbrev pub invariant-loop-k : goal.invariant-loop-k
invariant-loop-k l = string_bytes l.out ≡ string_bytes l.fn.out
    ++ joined (map (opened_text (calls_of (script_of l.script) l.journal.bytes l.journal.entries)) (opened_all l.k l.journal.entries))

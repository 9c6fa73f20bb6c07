use Rattle.std.proofs.Common.{◌≡◌, ◌++◌, map, string_bytes, take}
use Rattle.vs_apps_parts.specs.{Journals.calls_of, Scripts.script_of}
use Rattle.vs_report.specs.Gives.{joined}
use Rattle.vs_run_report.specs.Connections.{opened_of, opened_text}
use Rattle.vs_run_report.proofs.connection.push_all_opened.Given as goal

-- the lines of the entries so far
abbrev pub invariant-loop-entry : goal.invariant-loop-entry
invariant-loop-entry l = string_bytes l.out ≡ string_bytes l.fn.out
    ++ joined (map (opened_text (calls_of (script_of l.script) l.journal.bytes l.journal.entries)) (opened_of l.app (take l.entry-index l.entries)))
